-- What is known of a netlist from what is known of it in its modes, one after the other.
use Rattle.std.proofs.Common.{◌≡◌, ℕ, zero, suc, ◌+◌, ◌<◌, ◌≤◌, add-one, append_assoc, below_more, true, false, is_some, List, [], ◌∷◌, ◌++◌, length, take, get_or, IfErr, Result, Ok, Err, Option, None, Some, refl, sym, ◌∙◌, ap, subst, slice_get, arith}
use Rattle.std.specs.List.{AllZip, concat}
use Rattle.std.proofs.lemmas.List.{append-nil, get_or-take, get_or_default, length-map, length-take-le}
use Rattle.std.proofs.lemmas.Option.{slice_get-get_or, slice_get_read}
use Rattle.net_model.specs.declared.fault.CheckFault.{CheckFault}
use Rattle.net_model.specs.declared.fault.CheckFault.TheVariants.{Fault as Broken, Memory as CheckMemory}
use Rattle.net_model.specs.declared.fault.NetFault.{NetFault}
use Rattle.net_model.specs.declared.fault.NetFault.TheVariants.{AlwaysClash, PatternLarge, TooMany}
use Rattle.net_model.specs.declared.hardware.Netlist.{Netlist}
use Rattle.net_model.specs.CheckedRules.{Ordered}
use Rattle.net_model.specs.Fixed.{in_mode}
use Rattle.net_model.specs.ModeRules.{AreModesOfNetlist, base_at, modes_in}
use Rattle.net_model.specs.Transfers.{ClashesAlways}
use Rattle.net_model.proofs.Fixes.{length_bases}
use Rattle.net_model.proofs.ModeFaults.{base_is}
use Rattle.isa_extract.specs.Extracts.{AreTextsBelow, BreaksRoutes, HasCleanWord, InEachMode, IsModesRefusal, IsRouted, IsRouteRefusal, IsModesText, IsTextOf, ModesBreakRoutes, mode_line}
use Rattle.isa_extract.specs.Inner.Modes.{AreControlledIn, BreaksClash, BreaksLimits, IsClashRefusal, IsLimitRefusal}
use Rattle.isa_extract.specs.declared.netlists.Controlled.{Controlled}
use Rattle.isa_extract.specs.declared.netlists.Isa.{Isa}
use Rattle.isa_extract.proofs.Cleans.{clean_word}

-- ---- lists side by side

module _ {A B : Type 0} (R : A → B → Type 0) where
  pub zip_at : (xs : List A) (ys : List B) (i : ℕ) (x : A) (y : B) → AllZip R xs ys → i < length ys → R (get_or xs i x) (get_or ys i y)
  zip_at [] [] i x y h lt = absurd (omega (arith, lt))
  zip_at [] (b ∷ ys) i x y h lt = absurd h
  zip_at (a ∷ xs) [] i x y h lt = absurd h
  zip_at (a ∷ xs) (b ∷ ys) zero x y h lt = h.0
  zip_at (a ∷ xs) (b ∷ ys) (suc i) x y h lt = zip_at xs ys i x y h.1 (omega (arith, lt))

  -- what is read of both at one place
  pub zip_read : (xs : List A) (ys : List B) (i : ℕ) (x : A) (y : B) → AllZip R xs ys → i < length ys → x ≡ get_or xs i x → y ≡ get_or ys i y → R x y
  zip_read xs ys i x y h lt p q = subst (R x) (sym q) (subst (λ (a : A). R a (get_or ys i y)) (sym p) (zip_at xs ys i x y h lt))

  -- and of the first place
  pub zip_first : (xs : List A) (ys : List B) (x : A) (y : B) → AllZip R xs ys → slice_get xs 0 ≡ Some x → y ≡ get_or ys 0 y → R x y
  zip_first [] ys x y h at is = absurd (cc at)
  zip_first (a ∷ xs) [] x y h at is = absurd h
  zip_first (a ∷ xs) (b ∷ ys) x y h at is =
      let same : a ≡ x = cc at in
      subst (R x) (sym is) (subst (λ (z : A). R z b) same h.0)

-- ---- of one netlist

clash_is : (netlist : Netlist) (fault : NetFault) → BreaksClash netlist fault → BreaksRoutes netlist fault
clash_is netlist AlwaysClash h = h
clash_is netlist _ h = absurd h

pub clash_refused : (netlist : Netlist) (cause : CheckFault) → IsClashRefusal netlist cause → IsRouteRefusal netlist cause
clash_refused netlist (Broken fault) h = clash_is netlist fault h
clash_refused netlist CheckMemory h = tt

limit_is : (netlist : Netlist) (fault : NetFault) → BreaksLimits netlist fault → BreaksRoutes netlist fault
limit_is netlist (PatternLarge at) h = h
limit_is netlist (TooMany at) h = h
limit_is netlist _ h = absurd h

limit_refused : (netlist : Netlist) (cause : CheckFault) → IsLimitRefusal netlist cause → IsRouteRefusal netlist cause
limit_refused netlist (Broken fault) h = limit_is netlist fault h
limit_refused netlist CheckMemory h = tt

pub limits_refused : (netlist : Netlist) (found : Result Isa CheckFault) → IfErr found (IsLimitRefusal netlist) → IfErr found (IsRouteRefusal netlist)
limits_refused netlist (Ok isa) h = tt
limits_refused netlist (Err cause) h = limit_refused netlist cause h

-- a netlist with control bits has a word without clash
clean_at : (bases : List Ordered) (list : List Controlled) → AreControlledIn bases list → (v : ℕ) (base : Ordered) → slice_get bases v ≡ Some base → HasCleanWord base.netlist
clean_at [] list h v base at = absurd (cc at)
clean_at (b ∷ bases) [] h v base at = absurd h
clean_at (b ∷ bases) (one ∷ list) h zero base at =
    let same : b ≡ base = cc at in
    subst (λ (o : Ordered). HasCleanWord o.netlist) same (clean_word b.netlist one.book one.controls h.0.controls)
clean_at (b ∷ bases) (one ∷ list) h (suc v) base at = clean_at bases list h.1 v base at

-- ---- of a netlist in its modes

module _ (netlist : Netlist) (bases : List Ordered) (are : AreModesOfNetlist netlist bases) where
  pub many : length bases ≡ modes_in netlist
  many = sym (length-map bases (λ (base : Ordered). base.netlist)) ∙ ap length are.are ∙ length_bases netlist (modes_in netlist)

  -- what is read at the place of a mode
  pub base_read : (v : ℕ) (base : Ordered) → v < length bases → base ≡ get_or bases v base → base.netlist ≡ base_at netlist v
  base_read v base lt is = base_is netlist bases are v base (slice_get_read bases (length bases) v base refl lt is)

  clean_before : (i : ℕ) (d : Ordered) (list : List Controlled) → i ≤ length bases → AreControlledIn (take i bases) list → (v : ℕ) → v < i → HasCleanWord (base_at netlist v)
  clean_before i d list le h v lt =
      let base = get_or bases v d in
      let within : v < length bases = omega (arith, lt, le) in
      let at : slice_get (take i bases) v ≡ Some base =
      slice_get-get_or (take i bases) v d (omega (arith, lt, length-take-le i bases le)) ∙ ap (λ (o : Ordered). Some o) (get_or-take i bases v d lt) in
      subst HasCleanWord (base_read v base within (get_or_default bases v d base within)) (clean_at (take i bases) list h v base at)

  -- the first mode whose netlist has no control bits
  pub clash_in_modes : (i : ℕ) (base : Ordered) (list : List Controlled) → i < length bases → base ≡ get_or bases i base → AreControlledIn (take i bases) list →
      (cause : CheckFault) → IsClashRefusal base.netlist cause → IsModesRefusal netlist cause
  clash_in_modes i base list lt is h CheckMemory r = tt
  clash_in_modes i base list lt is h (Broken fault) r = by fault r
    where
      by : (fault : NetFault) → BreaksClash base.netlist fault → ModesBreakRoutes netlist fault
      by AlwaysClash k = record {
        value = i;
        within = omega (arith, lt, many);
        before = clean_before i base list (omega (arith, lt)) h;
        breaks = subst ClashesAlways (base_read i base lt is) k;
      }
      by _ k = absurd k

  -- the first of which nothing is extracted from its control bits, where all have such
  pub limit_in_modes : (i : ℕ) (base : Ordered) (list : List Controlled) → i < length bases → base ≡ get_or bases i base → AreControlledIn bases list →
      ((v : ℕ) → v < i → IsRouted (base_at netlist v)) → (cause : CheckFault) → IsLimitRefusal base.netlist cause → IsModesRefusal netlist cause
  limit_in_modes i base list lt is h kept CheckMemory r = tt
  limit_in_modes i base list lt is h kept (Broken fault) r = by fault r
    where
      clean : InEachMode HasCleanWord netlist
      clean v small =
          let b = get_or bases v base in
          let within : v < length bases = omega (arith, small, many) in
          subst HasCleanWord (base_read v b within (get_or_default bases v base b within)) (clean_at bases list h v b (slice_get-get_or bases v base within))

      by : (fault : NetFault) → BreaksLimits base.netlist fault → ModesBreakRoutes netlist fault
      by (PatternLarge at) k = (
        clean,
        record {
          value = i;
          within = omega (arith, lt, many);
          before = λ v small. (kept v small).limits;
          breaks = subst (λ (n : Netlist). BreaksRoutes n (PatternLarge at)) (base_read i base lt is) k;
        },
      )
      by (TooMany at) k = (
        clean,
        record {
          value = i;
          within = omega (arith, lt, many);
          before = λ v small. (kept v small).limits;
          breaks = subst (λ (n : Netlist). BreaksRoutes n (TooMany at)) (base_read i base lt is) k;
        },
      )
      by _ k = absurd k

  -- the netlists before a mode keep the rules, and so does that of the mode
  pub routed_more : (i : ℕ) (base : Ordered) → i < length bases → base ≡ get_or bases i base → ((v : ℕ) → v < i → IsRouted (base_at netlist v)) → IsRouted base.netlist →
      (v : ℕ) → v < i + 1 → IsRouted (base_at netlist v)
  routed_more i base lt is kept here = below_more (λ (v : ℕ). IsRouted (base_at netlist v)) i kept (subst IsRouted (base_read i base lt is) here)

-- ---- texts of modes

joined : (a b c : List ℕ) → (a ++ b) ++ c ≡ concat (a ∷ b ∷ c ∷ [])
joined a b c = append_assoc a b c ∙ ap (λ (x : List ℕ). a ++ (b ++ x)) (sym (append-nil c))

-- one more, behind those so far
pub text_more : (netlist : Netlist) (v : ℕ) (text own after : List ℕ) → AreTextsBelow netlist v text → IsTextOf (base_at netlist v) own →
    after ≡ (text ++ mode_line v) ++ own → AreTextsBelow netlist (v + 1) after
text_more netlist v text own after h k is =
    subst (λ (n : ℕ). AreTextsBelow netlist n after) (sym (add-one v)) (text, h, own, k, is ∙ joined text (mode_line v) own)

-- a netlist with a mode has the texts of all modes
pub text_with_mode : (netlist : Netlist) (special : Option ℕ) → is_some special ≡ true → (text : List ℕ) → AreTextsBelow netlist (modes_in netlist) text → IsModesText special netlist text
text_with_mode netlist None some text h = absurd (cc some)
text_with_mode netlist (Some mode) some text h = h

-- and else that of what it is in the only mode
pub text_alone : (netlist : Netlist) (special : Option ℕ) → is_some special ≡ false → (base : Netlist) → base ≡ in_mode special 0 netlist → (text : List ℕ) → IsTextOf base text → IsModesText special netlist text
text_alone netlist None none base e text h = subst (λ (n : Netlist). IsTextOf n text) e h
text_alone netlist (Some mode) none base e text h = absurd (cc none)
