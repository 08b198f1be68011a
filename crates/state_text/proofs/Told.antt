-- The reader's functions tell exactly what a line sets.
use Rattle.std.proofs.Common.{◌≡◌, ◌≢◌, ◌==◌, ◌||◌, ℕ, zero, suc, ◌+◌, ◌^◌, ◌<◌, ◌≤◌, inl, inr, List, [], ◌∷◌, ◌++◌, length, map, Bool, true, false, not, cond, Option, Some, None, refl, sym, ap, subst, ◌∙◌, true≢false, eqb-true, eq-eqb, arith}
use Rattle.std.proofs.lemmas.Bool.{ltb-true, lt-ltb}
use Rattle.std.proofs.lemmas.Option.{cond_some, same_Some, some_pair_parts}
use Rattle.std.proofs.lemmas.Slice.Eq.{bytes_eq-Decides}
use Rattle.std.specs.Cmp.Lexicographic.{pointwise}
use Rattle.std.specs.Fmt.{decimal}
use Rattle.std.specs.List.{AllByRecursion, IsDistinct, position_or_len}
use Rattle.std.specs.Prelude.{nat_eq, nat_lt, slice_get, option_map}
use Rattle.std.specs.Str.{bytes_eq}
use Rattle.rec_bits.proofs.Equality.{name_self}
use Rattle.rec_bits.proofs.Bits.{below_64}
use Rattle.text_lines.specs.Fields.{parts_at, longer_front, number_of, line_end, ◌>>=◌}
use Rattle.text_lines.proofs.Parts.{Avoids, parts_are, parts_again}
use Rattle.text_lines.proofs.Ends.{end_is, end_again}
use Rattle.text_lines.proofs.Numbers.{number_is, number_again, avoids-decimal}
use Rattle.text_lines.proofs.Steps.{bind_ok, bind_again}
use Rattle.net_model.specs.declared.hardware.Netlist.{Netlist}
use Rattle.net_model.specs.declared.hardware.Code.{Code}
use Rattle.net_model.specs.declared.hardware.Storage.{Storage}
use Rattle.net_model.specs.declared.hardware.Storage.TheVariants.{Register, Memory, File}
use Rattle.net_model.specs.declared.hardware.Cells.{Cells}
use Rattle.net_model.specs.declared.hardware.Space.{Space}
use Rattle.net_model.specs.declared.hardware.Space.TheVariants.{Memory as InMemory, File as InFile}
use Rattle.net_model.specs.declared.states.State.{State}
use Rattle.net_model.specs.Nets.{counter_of, place_in, size_in, width_in, storage_bits, storage_cells, storage_name, IsRegister, HasCells}
use Rattle.net_model.specs.CheckedRules.{KeepsRules}
use Rattle.net_model.specs.MemoryText.{IsOneWord, SetsRegister, SetsCell, SetsNothing, SetsLine}
use Rattle.net_model.specs.Texts.{name_in, name_of, space_name}
use Rattle.net_model.proofs.Memories.{size_found, width_found, few_sizes}
use Rattle.net_model.proofs.Storages.{register_within}
use Rattle.state_text.specs.declared.setting.Setting.{Setting}
use Rattle.state_text.specs.declared.setting.Setting.TheVariants.{Entry, Cell}
use Rattle.state_text.specs.Inner.Settings.{below, number_below, named_at, entry_of, cell_of, array_at, setting_at, setting_for, setting_of, with_setting, SettingFits, is_number}
use Rattle.state_text.proofs.Rooms.{storage_narrow}

-- ---- words

-- what stands before the first space is a word
front_word : (bs x y : List ℕ) → parts_at 32 bs ≡ Some (x, y) → IsOneWord x
unfolding parts_at
front_word [] x y e = absurd cc
front_word (b ∷ bs) x y e = step (b == 32) refl (parts_at 32 bs) (λ (u : List ℕ × List ℕ). front_word bs u.0 u.1) e
  where
    step : (test : Bool) → (b == 32) ≡ test → (o : Option (List ℕ × List ℕ)) → ((u : List ℕ × List ℕ) → o ≡ Some u → IsOneWord u.0) →
        cond test (Some ([], bs)) (option_map (longer_front b) o) ≡ Some (x, y) → IsOneWord x
    step true t o ih e =
        let p : ([] ≡ x) × (bs ≡ y) = some_pair_parts [] x bs y e in
        subst IsOneWord p.0 tt
    step false t None ih e = absurd cc
    step false t (Some u) ih e =
        let p : ((b ∷ u.0) ≡ x) × (u.1 ≡ y) = some_pair_parts (b ∷ u.0) x u.1 y e in
        let other : b ≢ 32 = λ same. true≢false (sym (eq-eqb b 32 same) ∙ t) in
        subst IsOneWord p.0 (other, ih u refl)

avoids_word : (name : List ℕ) → IsOneWord name → Avoids 32 name
avoids_word [] h = tt
avoids_word (b ∷ bs) h = (step (b == 32) refl, avoids_word bs h.1)
  where
    step : (test : Bool) → (b == 32) ≡ test → test ≡ false
    step true t = absurd (h.0 (eqb-true b 32 t))
    step false t = refl

-- ---- names

own_name : (storage : Storage) → name_in (Some storage) ≡ storage_name storage
own_name (Register name width input when) = refl
own_name (Memory cells) = refl
own_name (File cells) = refl

-- a name that differs from all of these isn't that of one of the storages
no_other : (name : List ℕ) (storages : List Storage) (more : List (List ℕ)) (id : ℕ) → AllByRecursion (λ y. pointwise nat_eq name y ≡ false) (map storage_name storages ++ more) → id < length storages →
    name_in (slice_get storages id) ≡ name → ⊥
no_other name [] more id d lt e = omega (arith, lt)
no_other name (s ∷ storages) more zero d lt e =
    let same : storage_name s ≡ name = sym (own_name s) ∙ e in
    true≢false (sym (name_self name) ∙ (ap (pointwise nat_eq name) (sym same) ∙ d.0))
no_other name (s ∷ storages) more (suc id) d lt e = no_other name storages more id d.1 (omega (arith, lt)) e

module _ (name : List ℕ) where
  abbrev is_it : Storage → Bool
  is_it storage = bytes_eq (storage_name storage) name

  -- the storage that is found has the name
  found_name : (storages : List Storage) (id : ℕ) → position_or_len is_it storages ≡ id → id < length storages → name_in (slice_get storages id) ≡ name
  found_name [] id e lt = absurd (omega (arith, lt))
  found_name (s ∷ storages) id e lt = step (is_it s) refl (λ k. found_name storages k) id e lt
    where
      step : (test : Bool) → is_it s ≡ test → ((k : ℕ) → position_or_len is_it storages ≡ k → k < length storages → name_in (slice_get storages k) ≡ name) →
          (id : ℕ) → cond (not test) (1 + position_or_len is_it storages) 0 ≡ id → id < suc (length storages) → name_in (slice_get (s ∷ storages) id) ≡ name
      step true t later zero e lt = own_name s ∙ (bytes_eq-Decides (storage_name s) name).0 t
      step true t later (suc id) e lt = absurd (omega (arith, e))
      step false t later zero e lt = absurd (omega (arith, e))
      step false t later (suc id) e lt = later id (omega (arith, e)) (omega (arith, lt))

  -- no storage before it does
  first_at : (storages : List Storage) (more : List (List ℕ)) (id : ℕ) → IsDistinct (pointwise nat_eq) (map storage_name storages ++ more) → id < length storages → name_in (slice_get storages id) ≡ name →
      position_or_len is_it storages ≡ id
  unfolding IsDistinct
  first_at [] more id d lt e = absurd (omega (arith, lt))
  first_at (s ∷ storages) more zero d lt e = rw ((bytes_eq-Decides (storage_name s) name).1 (sym (own_name s) ∙ e)) refl
  first_at (s ∷ storages) more (suc id) d lt e = step (is_it s) refl (first_at storages more id d.1 (omega (arith, lt)) e)
    where
      step : (test : Bool) → is_it s ≡ test → position_or_len is_it storages ≡ id → cond (not test) (1 + position_or_len is_it storages) 0 ≡ suc id
      step true t later =
          let same : storage_name s ≡ name = (bytes_eq-Decides (storage_name s) name).0 t in
          absurd (no_other (storage_name s) storages more id d.0 (omega (arith, lt)) (e ∙ sym same))
      step false t later = omega (arith, later)

  named_is : (storages : List Storage) (id : ℕ) → named_at storages name ≡ Some id → name_in (slice_get storages id) ≡ name
  named_is storages id e =
      let p = cond_some (nat_lt (position_or_len is_it storages) (length storages)) (position_or_len is_it storages) id e in
      let lt : position_or_len is_it storages < length storages = ltb-true (position_or_len is_it storages) (length storages) p.0 in
      found_name storages id p.1 (omega (arith, lt, p.1))

-- ---- what was read

below_fits : (width n v : ℕ) → below width n ≡ Some v → v < 2 ^ width
below_fits width n v e = let p = cond_some (nat_lt n (2 ^ width)) n v e in omega (arith, ltb-true n (2 ^ width) p.0, p.1)

number_fits : (width : ℕ) (text : List ℕ) (v : ℕ) → number_below width text ≡ Some v → v < 2 ^ width
unfolding number_below
number_fits width text v e = let b = bind_ok (line_end text >>= number_of) (below width) v e in below_fits width b.value v b.then

other_id : (id counter : ℕ) (named : Bool) (o : Option Setting) (setting : Setting) → cond ((id == counter) || named) None o ≡ Some setting → (id ≢ counter) × (named ≡ false) × (o ≡ Some setting)
other_id id counter named o setting e = step (id == counter) named refl (λ f. eq-eqb id counter f) e
  where
    step : (t other : Bool) → named ≡ other → (id ≡ counter → t ≡ true) → cond (t || other) None o ≡ Some setting → (id ≢ counter) × (named ≡ false) × (o ≡ Some setting)
    step true other n h e = absurd cc
    step false true n h e = absurd cc
    step false false n h e = (λ f. let g = h f in cc, n, e)

not_number : (still : Option ℕ) (id : ℕ) → is_number still id ≡ false → still ≢ Some id
not_number None id n same = absurd cc
not_number (Some k) id n same = true≢false (sym (eq-eqb k id (same_Some k id same)) ∙ n)

no_number : (still : Option ℕ) (id : ℕ) → still ≢ Some id → is_number still id ≡ false
no_number None id other = refl
no_number (Some k) id other = step (k == id) refl
  where
    step : (t : Bool) → (k == id) ≡ t → t ≡ false
    step true t = absurd (other (ap Some (eqb-true k id t)))
    step false t = refl

number_below_is : (width : ℕ) (text : List ℕ) (v : ℕ) → number_below width text ≡ Some v → text ≡ decimal v ++ (10 ∷ [])
unfolding number_below
number_below_is width text v e =
    let a = bind_ok (line_end text >>= number_of) (below width) v e in
    let b = bind_ok (line_end text) number_of a.value a.first in
    let p = number_is b.value a.value b.then in
    let q = cond_some (nat_lt a.value (2 ^ width)) a.value v a.then in
    end_is text b.value b.first ∙ ap (λ digits. digits ++ (10 ∷ [])) (p.0 ∙ ap decimal q.1)

-- the text behind the name of this storage is that of the setting
abbrev ReadsAs : Netlist → ℕ → List ℕ → Setting → Type 0
ReadsAs netlist id text (Entry storage value) = (storage ≡ id) × (text ≡ decimal value ++ (10 ∷ []))
ReadsAs netlist id text (Cell space address value) = (id ≡ place_in space netlist.storages) × (text ≡ decimal address ++ (32 ∷ (decimal value ++ (10 ∷ []))))

-- a setting fits, and its text is that
record IsOf (netlist : Netlist) (still : Option ℕ) (id : ℕ) (text : List ℕ) (setting : Setting) : Type 0 where
  pub fits : SettingFits netlist still setting
  pub reads : ReadsAs netlist id text setting

array_is : (netlist : Netlist) (still : Option ℕ) (id : ℕ) (space : Space) (cells : Cells) (o : Option Storage) (text : List ℕ) (setting : Setting) → slice_get netlist.storages id ≡ o → (storage_cells o ≡ cells.size) × (storage_bits o ≡ cells.width) → array_at netlist.storages id space cells text ≡ Some setting → IsOf netlist still id text setting
unfolding array_at cell_of
array_is netlist still id space cells o text setting q same e =
    let p = cond_some_of (id == place_in space netlist.storages) (cell_of space cells.size cells.width text) setting e in
    let here : id ≡ place_in space netlist.storages = eqb-true id (place_in space netlist.storages) p.0 in
    let found : slice_get netlist.storages (place_in space netlist.storages) ≡ o = ap (slice_get netlist.storages) (sym here) ∙ q in
    let sized : cells.size ≡ size_in space netlist.storages = sym (ap storage_cells found ∙ same.0) ∙ size_found space netlist.storages in
    let wide : cells.width ≡ width_in space netlist.storages = sym (ap storage_bits found ∙ same.1) ∙ width_found space netlist.storages in
    let a = bind_ok (parts_at 32 text) _ setting p.1 in
    let b = bind_ok (number_of a.value.0) _ setting a.then in
    let d = bind_ok (number_below cells.width a.value.1) _ setting b.then in
    let r = cond_some (nat_lt b.value cells.size) (Cell space b.value d.value) setting d.then in
    let v : d.value < 2 ^ cells.width = number_fits cells.width a.value.1 d.value d.first in
    let in_size : b.value < cells.size = ltb-true b.value cells.size r.0 in
    let P : ℕ → Type 0 = λ w. d.value < 2 ^ w in
    let front = number_is a.value.0 b.value b.first in
    let is : text ≡ decimal b.value ++ (32 ∷ (decimal d.value ++ (10 ∷ []))) =
    parts_are 32 text a.value.0 a.value.1 a.first ∙ ap (λ x. x ++ (32 ∷ a.value.1)) front.0 ∙ ap (λ y. decimal b.value ++ (32 ∷ y)) (number_below_is cells.width a.value.1 d.value d.first) in
    subst (IsOf netlist still id text) r.1 (record { fits = (omega (arith, in_size, sized), subst P wide v); reads = (here, is) })
  where
    cond_some_of : (t : Bool) (o : Option Setting) (setting : Setting) → cond t o None ≡ Some setting → (t ≡ true) × (o ≡ Some setting)
    cond_some_of true o setting e = (refl, e)
    cond_some_of false o setting e = absurd cc

at_is : (netlist : Netlist) (still : Option ℕ) (id : ℕ) (o : Option Storage) (text : List ℕ) (setting : Setting) → slice_get netlist.storages id ≡ o → setting_at netlist still id o text ≡ Some setting → IsOf netlist still id text setting
unfolding setting_at entry_of
at_is netlist still id None text setting q e = absurd cc
at_is netlist still id (Some (Register name width input when)) text setting q e =
    let p = other_id id (counter_of netlist.codes) (is_number still id) (entry_of id width text) setting e in
    let b = bind_ok (number_below width text) _ setting p.2 in
    let v : b.value < 2 ^ width = number_fits width text b.value b.first in
    subst (IsOf netlist still id text) (same_Some (Entry id b.value) setting b.then) (record { fits = rw q (tt, p.0, λ same. not_number still id p.1 same, v); reads = (refl, number_below_is width text b.value b.first) })
at_is netlist still id (Some (Memory cells)) text setting q e = array_is netlist still id InMemory cells (Some (Memory cells)) text setting q (refl, refl) e
at_is netlist still id (Some (File cells)) text setting q e = array_is netlist still id InFile cells (Some (File cells)) text setting q (refl, refl) e

-- what is read of a line fits, and the line is that which sets it
record Told (netlist : Netlist) (still : Option ℕ) (line : List ℕ) (setting : Setting) : Type 0 where
  pub id : ℕ
  pub text : List ℕ
  pub word : IsOneWord (name_of netlist id)
  pub line_is : line ≡ name_of netlist id ++ (32 ∷ text)
  pub is : IsOf netlist still id text setting

told : (netlist : Netlist) (still : Option ℕ) (line : List ℕ) (setting : Setting) → setting_of netlist still line ≡ Some setting → Told netlist still line setting
unfolding setting_of setting_for
told netlist still line setting e =
    let a = bind_ok (parts_at 32 line) _ setting e in
    let b = bind_ok (named_at netlist.storages a.value.0) _ setting a.then in
    let named : name_of netlist b.value ≡ a.value.0 = named_is a.value.0 netlist.storages b.value b.first in
    record {
      id = b.value;
      text = a.value.1;
      word = subst IsOneWord (sym named) (front_word line a.value.0 a.value.1 a.first);
      line_is = parts_are 32 line a.value.0 a.value.1 a.first ∙ ap (λ name. name ++ (32 ∷ a.value.1)) (sym named);
      is = at_is netlist still b.value (slice_get netlist.storages b.value) a.value.1 setting refl b.then;
    }

pub setting_fits : (netlist : Netlist) (still : Option ℕ) (line : List ℕ) (setting : Setting) → setting_of netlist still line ≡ Some setting → SettingFits netlist still setting
setting_fits netlist still line setting e = (told netlist still line setting e).is.fits

pub leads_of : (netlist : Netlist) (still : Option ℕ) (s : State) (line : List ℕ) (setting : Setting) → setting_of netlist still line ≡ Some setting → SetsLine netlist still s line (with_setting s setting)
leads_of netlist still s line setting e = go setting (told netlist still line setting e)
  where
    go : (setting : Setting) → Told netlist still line setting → SetsLine netlist still s line (with_setting s setting)
    go (Entry id value) t =
        let same : t.id ≡ id = sym t.is.reads.0 in
        let written : line ≡ name_of netlist id ++ (32 ∷ (decimal value ++ (10 ∷ []))) = t.line_is ∙ ap (λ text. name_of netlist t.id ++ (32 ∷ text)) t.is.reads.1 ∙ ap (λ k. name_of netlist k ++ (32 ∷ (decimal value ++ (10 ∷ [])))) same in
        inl (id, value, record { register = t.is.fits.0; other = t.is.fits.1; name = subst (λ k. IsOneWord (name_of netlist k)) same t.word; unnamed = t.is.fits.2; fits = t.is.fits.3; line_is = written }, refl)
    go (Cell space address value) t =
        let same : t.id ≡ place_in space netlist.storages = t.is.reads.0 in
        let digits = decimal address ++ (32 ∷ (decimal value ++ (10 ∷ []))) in
        let written : line ≡ space_name netlist space ++ (32 ∷ digits) = t.line_is ∙ ap (λ text. name_of netlist t.id ++ (32 ∷ text)) t.is.reads.1 ∙ ap (λ k. name_of netlist k ++ (32 ∷ digits)) same in
        inr (space, address, value, record { within = t.is.fits.0; name = subst (λ k. IsOneWord (name_of netlist k)) same t.word; fits = t.is.fits.1; line_is = written }, refl)

-- ---- what is written

number_below_again : (width v : ℕ) → width ≤ 64 → v < 2 ^ width → number_below width (decimal v ++ (10 ∷ [])) ≡ Some v
unfolding number_below
number_below_again width v narrow h =
    let small : v < 2 ^ 64 = below_64 v width narrow h in
    let text = decimal v ++ (10 ∷ []) in
    bind_again (line_end text >>= number_of) (below width) v (Some v)
    (bind_again (line_end text) number_of (decimal v) (Some v) (end_again (decimal v) (avoids-decimal 10 v refl small)) (number_again v small))
    (rw (lt-ltb v (2 ^ width) h) refl)

at_register : (netlist : Netlist) (still : Option ℕ) (id value : ℕ) (o : Option Storage) → IsRegister o → id ≢ counter_of netlist.codes → still ≢ Some id → value < 2 ^ storage_bits o → storage_bits o ≤ 64 →
    setting_at netlist still id o (decimal value ++ (10 ∷ [])) ≡ Some (Entry id value)
unfolding setting_at entry_of
at_register netlist still id value None r d u f narrow = absurd r
at_register netlist still id value (Some (Register name width input when)) r d u f narrow =
    step (id == counter_of netlist.codes) refl (is_number still id) (no_number still id u) (bind_again (number_below width (decimal value ++ (10 ∷ []))) _ value (Some (Entry id value)) (number_below_again width value narrow f) refl)
  where
    step : (test : Bool) → (id == counter_of netlist.codes) ≡ test → (named : Bool) → named ≡ false → {o : Option Setting} → o ≡ Some (Entry id value) → cond (test || named) None o ≡ Some (Entry id value)
    step true t named n e = absurd (d (eqb-true id (counter_of netlist.codes) t))
    step false t true n e = absurd cc
    step false t false n e = e
at_register netlist still id value (Some (Memory cells)) r d u f narrow = absurd r
at_register netlist still id value (Some (File cells)) r d u f narrow = absurd r

at_array : (storages : List Storage) (space : Space) (cells : Cells) (address value : ℕ) → address < cells.size → value < 2 ^ cells.width → cells.width ≤ 64 → address < 2 ^ 64 →
    array_at storages (place_in space storages) space cells (decimal address ++ (32 ∷ (decimal value ++ (10 ∷ [])))) ≡ Some (Cell space address value)
unfolding array_at cell_of
at_array storages space cells address value lt f narrow small =
    let text = decimal value ++ (10 ∷ []) in
    let cell : Option Setting = Some (Cell space address value) in
    ap (λ test. cond test (cell_of space cells.size cells.width (decimal address ++ (32 ∷ text))) None) (eq-eqb (place_in space storages) (place_in space storages) refl)
    ∙ bind_again (parts_at 32 (decimal address ++ (32 ∷ text))) _ (decimal address, text) cell (parts_again 32 (decimal address) text (avoids-decimal 32 address refl small))
    (bind_again (number_of (decimal address)) _ address cell (number_again address small)
    (bind_again (number_below cells.width text) _ value cell (number_below_again cells.width value narrow f) (rw (lt-ltb address cells.size lt) refl)))

at_cell : (netlist : Netlist) (still : Option ℕ) (space : Space) (address value : ℕ) (o : Option Storage) → HasCells space o → address < storage_cells o → value < 2 ^ storage_bits o → storage_bits o ≤ 64 → address < 2 ^ 64 →
    setting_at netlist still (place_in space netlist.storages) o (decimal address ++ (32 ∷ (decimal value ++ (10 ∷ [])))) ≡ Some (Cell space address value)
unfolding setting_at
at_cell netlist still InMemory address value (Some (Memory cells)) h lt f narrow small = at_array netlist.storages InMemory cells address value lt f narrow small
at_cell netlist still InFile address value (Some (File cells)) h lt f narrow small = at_array netlist.storages InFile cells address value lt f narrow small
at_cell netlist still InMemory address value None h lt f narrow small = absurd h
at_cell netlist still InFile address value None h lt f narrow small = absurd h
at_cell netlist still InMemory address value (Some (Register name width input when)) h lt f narrow small = absurd h
at_cell netlist still InFile address value (Some (Register name width input when)) h lt f narrow small = absurd h
at_cell netlist still InMemory address value (Some (File cells)) h lt f narrow small = absurd h
at_cell netlist still InFile address value (Some (Memory cells)) h lt f narrow small = absurd h

-- a space with cells has its storage
space_there : (space : Space) (storages : List Storage) → 1 ≤ size_in space storages → HasCells space (slice_get storages (place_in space storages))
space_there InMemory [] h = absurd (omega (arith, h))
space_there InFile [] h = absurd (omega (arith, h))
space_there InMemory (Register name width input when ∷ storages) h = space_there InMemory storages h
space_there InMemory (Memory cells ∷ storages) h = tt
space_there InMemory (File cells ∷ storages) h = space_there InMemory storages h
space_there InFile (Register name width input when ∷ storages) h = space_there InFile storages h
space_there InFile (Memory cells ∷ storages) h = space_there InFile storages h
space_there InFile (File cells ∷ storages) h = tt

cells_within : (storages : List Storage) (id address : ℕ) → address < storage_cells (slice_get storages id) → id < length storages
cells_within [] id address lt = absurd (omega (arith, lt))
cells_within (s ∷ storages) zero address lt = omega arith
cells_within (s ∷ storages) (suc id) address lt = omega (arith, cells_within storages id address lt)

module _ (netlist : Netlist) (still : Option ℕ) (order : List ℕ) (rules : KeepsRules netlist order) where
  named_again : (id : ℕ) → id < length netlist.storages → named_at netlist.storages (name_of netlist id) ≡ Some id
  named_again id lt =
      let e = first_at (name_of netlist id) netlist.storages (map (λ (code : Code). code.name) netlist.codes) id rules.formed.names lt refl in
      rw (e, lt-ltb id (length netlist.storages) lt) refl

  -- a line of this name and this text
  named_line : (line : List ℕ) (id : ℕ) (text : List ℕ) (setting : Setting) → IsOneWord (name_of netlist id) → id < length netlist.storages → line ≡ name_of netlist id ++ (32 ∷ text) →
      setting_at netlist still id (slice_get netlist.storages id) text ≡ Some setting → setting_of netlist still line ≡ Some setting
  unfolding setting_of setting_for
  named_line line id text setting word lt written e =
      let name = name_of netlist id in
      let cut : parts_at 32 line ≡ Some (name, text) = ap (parts_at 32) written ∙ parts_again 32 name text (avoids_word name word) in
      bind_again (parts_at 32 line) _ (name, text) (Some setting) cut (bind_again (named_at netlist.storages name) _ id (Some setting) (named_again id lt) e)

  register_told : (line : List ℕ) (id value : ℕ) → SetsRegister netlist still line id value → setting_of netlist still line ≡ Some (Entry id value)
  register_told line id value h =
      named_line line id (decimal value ++ (10 ∷ [])) (Entry id value) h.name (register_within netlist.storages id h.register) h.line_is
      (at_register netlist still id value (slice_get netlist.storages id) h.register h.other h.unnamed h.fits (storage_narrow netlist netlist.storages id rules.formed.storages))

  cell_told : (line : List ℕ) (space : Space) (address value : ℕ) → SetsCell netlist line space address value → setting_of netlist still line ≡ Some (Cell space address value)
  cell_told line space address value h =
      let id = place_in space netlist.storages in
      let found = size_found space netlist.storages in
      let wide = width_found space netlist.storages in
      let within : address < storage_cells (slice_get netlist.storages id) = omega (arith, h.within, found) in
      let small : address < 2 ^ 64 = omega (arith, h.within, few_sizes netlist order rules space) in
      let P : ℕ → Type 0 = λ w. value < 2 ^ w in
      named_line line id (decimal address ++ (32 ∷ (decimal value ++ (10 ∷ [])))) (Cell space address value) h.name (cells_within netlist.storages id address within) h.line_is
      (at_cell netlist still space address value (slice_get netlist.storages id) (space_there space netlist.storages (omega (arith, h.within))) within (subst P (sym wide) h.fits) (storage_narrow netlist netlist.storages id rules.formed.storages) small)

  -- what a line does is read of it
  pub record IsRead (s : State) (line : List ℕ) (t : State) : Type 0 where
    pub setting : Setting
    pub read : setting_of netlist still line ≡ Some setting
    pub state : t ≡ with_setting s setting

  pub leads_told : (s : State) (line : List ℕ) (t : State) → SetsLine netlist still s line t → IsRead s line t
  leads_told s line t (inl (id, value, h, e)) = record { setting = Entry id value; read = register_told line id value h; state = e }
  leads_told s line t (inr (space, address, value, h, e)) = record { setting = Cell space address value; read = cell_told line space address value h; state = e }

  pub nothing_told : (line : List ℕ) → setting_of netlist still line ≡ None → SetsNothing netlist still line
  nothing_told line none = record {
    no_register = λ (id value : ℕ) (h : SetsRegister netlist still line id value). let e = register_told line id value h in cc;
    no_cell = λ (space : Space) (address value : ℕ) (h : SetsCell netlist line space address value). let e = cell_told line space address value h in cc;
  }
