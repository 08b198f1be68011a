-- What the simulators of a netlist in its modes keep, when one of them is set and when two trade.
use Rattle.std.proofs.Common.{◌≡◌, ◌≢◌, ℕ, zero, suc, ◌<◌, ◌^◌, List, [], ◌∷◌, length, map, get_or, set, Option, Some, None, option_map, refl, sym, ◌∙◌, ap, subst, slice_get, arith}
use Rattle.std.proofs.Math.Seq.{map-set_same}
use Rattle.std.proofs.lemmas.List.{get_or-set_other, get_or-set_same, get_or_default, length-map, length-set, set-set}
use Rattle.std.proofs.lemmas.Option.{same_Some, slice_get-get_or, slice_get-map, slice_get_read}
use Rattle.std.specs.List.{AllByRecursion}
use Rattle.rec_bits.proofs.Lists.{all_weaker}
use Rattle.net_model.specs.declared.hardware.Code.{Code}
use Rattle.net_model.specs.declared.hardware.Netlist.{Netlist}
use Rattle.net_model.specs.declared.states.State.{State}
use Rattle.net_model.specs.CheckedRules.{Ordered}
use Rattle.net_model.specs.Fixed.{mode_count, mode_in}
use Rattle.net_model.specs.ModeRules.{AreModesOfNetlist, base_at, bases_of, modes_in}
use Rattle.net_model.specs.Modes.{IsBase}
use Rattle.net_model.specs.Nets.{code_bits}
use Rattle.net_model.specs.Widths.{IsState, WordFits}
use Rattle.net_model.proofs.Bases.{base_of, state_in}
use Rattle.net_model.proofs.Fixes.{length_bases}
use Rattle.net_model.proofs.ModeFaults.{base_in, base_is}
use Rattle.cycle_sim.specs.declared.sim.Clocked.{Clocked}
use Rattle.cycle_sim.specs.Clocks.{Clocks}
use Rattle.cycle_sim.specs.Moded.{IsHeldBy}
use Rattle.cycle_sim.specs.Shown.{Shown}
use Rattle.cycle_sim.specs.Trades.{AreAlike, holding, shape_of}
use Rattle.cycle_sim.specs.Moding.{AreSims, no_sim, shown_by, sim_at, traded}
use Rattle.cycle_sim.proofs.Moding.{clocks_same}

-- ---- lists

module _ {X : Type 0} (P : X → Type 0) where
  pub all_set : (xs : List X) (i : ℕ) (y : X) → AllByRecursion P xs → P y → AllByRecursion P (set xs i y)
  all_set [] i y h k = tt
  all_set (x ∷ xs) zero y h k = (k, h.1)
  all_set (x ∷ xs) (suc i) y h k = (h.0, all_set xs i y h.1 k)

  pub all_get : (xs : List X) (i : ℕ) (d : X) → i < length xs → AllByRecursion P xs → P (get_or xs i d)
  all_get [] i d lt h = absurd (omega (arith, lt))
  all_get (x ∷ xs) zero d lt h = h.0
  all_get (x ∷ xs) (suc i) d lt h = all_get xs i d (omega (arith, lt)) h.1

module _ {X : Type 0} where
  -- what is set at a place before and behind another one is what is set behind it
  pub set_around : (xs : List X) (i k : ℕ) (was x y : X) → k ≢ i → set (set (set xs i was) k y) i x ≡ set (set xs i x) k y
  set_around [] i k was x y apart = refl
  set_around (z ∷ xs) zero zero was x y apart = absurd (apart refl)
  set_around (z ∷ xs) zero (suc k) was x y apart = refl
  set_around (z ∷ xs) (suc i) zero was x y apart = ap (λ (zs : List X). y ∷ zs) (set-set xs i was x)
  set_around (z ∷ xs) (suc i) (suc k) was x y apart = ap (λ (zs : List X). z ∷ zs) (set_around xs i k was x y (λ e. apart (ap suc e)))

-- ---- modes

-- the mode of a state is one of those that the netlist has
mode_small : (netlist : Netlist) (special : Option ℕ) (s : State) → IsState netlist s → mode_in special s < mode_count special netlist
mode_small netlist None s h = omega arith
mode_small netlist (Some id) s h = h.fits.regs id

pub mode_within : (netlist : Netlist) (bases : List Ordered) (s : State) → AreModesOfNetlist netlist bases → IsState netlist s → mode_in netlist.special s < length bases
mode_within netlist bases s are h =
    let small = mode_small netlist netlist.special s h in
    let long = length_bases netlist (modes_in netlist) in
    let same = ap length are.are in
    let mapped = length-map bases (λ (base : Ordered). base.netlist) in
    omega (arith, small, long, same, mapped)

module _ (netlist : Netlist) (v : ℕ) where
  base : IsBase netlist netlist.special v (base_at netlist v)
  base = base_of netlist netlist.special v

  pub state_at_base : (s : State) → IsState netlist s → IsState (base_at netlist v) s
  state_at_base s h = state_in netlist (base_at netlist v) s (sym base.storages) h

  pub state_of_base : (s : State) → IsState (base_at netlist v) s → IsState netlist s
  state_of_base s h = state_in (base_at netlist v) netlist s base.storages h

  pub words_at_base : (words : List ℕ) → AllByRecursion (WordFits netlist) words → AllByRecursion (WordFits (base_at netlist v)) words
  words_at_base words h = all_weaker (WordFits netlist) (WordFits (base_at netlist v)) one words h
    where
      one : (word : ℕ) → WordFits netlist word → WordFits (base_at netlist v) word
      one word h = record {
        fits = λ code.
            subst (λ (codes : List Code). 0 < code_bits (slice_get codes code) → word < 2 ^ code_bits (slice_get codes code)) (sym base.codes) (h.fits code);
      }

-- what is read of the modes' netlists is what the netlist is in a mode
pub base_read : (netlist : Netlist) (bases items : List Ordered) → AreModesOfNetlist netlist bases → items ≡ bases → (v : ℕ) (base : Ordered) →
    v < length items → base ≡ get_or items v base → base.netlist ≡ base_at netlist v
base_read netlist bases items are same v base lt is =
    base_is netlist bases are v base (ap (λ (list : List Ordered). slice_get list v) (sym same) ∙ slice_get_read items (length items) v base refl lt is)

-- what the netlist is in a mode has its storages
pub base_alike : (netlist a : Netlist) (v : ℕ) → a ≡ base_at netlist v → AreAlike a netlist
base_alike netlist a v e = ap (map shape_of) (ap (λ (n : Netlist). n.storages) e ∙ (base_of netlist netlist.special v).storages)

-- ---- the simulators

abbrev own : Shown → Netlist
own sim = sim.netlist

module _ (netlist : Netlist) (sims : List Shown) (own_bases : map (λ (sim : Shown). sim.netlist) sims ≡ bases_of netlist) where
  many : length sims ≡ modes_in netlist
  many = sym (length-map sims own) ∙ ap length own_bases ∙ length_bases netlist (modes_in netlist)

  pub mode_in_sims : (s : State) → IsState netlist s → mode_in netlist.special s < length sims
  mode_in_sims s h = let small = mode_small netlist netlist.special s h in omega (arith, small, many)

  -- each is of what the netlist is in its mode
  pub base_in_sims : (v : ℕ) → v < length sims → (sim_at sims v).netlist ≡ base_at netlist v
  base_in_sims v lt =
      let small : v < modes_in netlist = omega (arith, lt, many) in
      same_Some (sim_at sims v).netlist (base_at netlist v) (
      sym (slice_get-map own sims v ∙ ap (option_map own) (slice_get-get_or sims v no_sim lt))
      ∙ ap (λ (list : List Netlist). slice_get list v) own_bases
      ∙ base_in netlist (modes_in netlist) v small
      )

  -- they keep what they have to, where all have the same words
  pub are_sims : (mode : ℕ) (words : List ℕ) → AllByRecursion (λ (sim : Shown). sim.words ≡ words) sims →
      mode < length sims → mode_in netlist.special (sim_at sims mode).state ≡ mode → IsState netlist (sim_at sims mode).state → AreSims netlist sims mode
  are_sims mode words all within here state = record {
    bases = own_bases;
    words =
        all_weaker (λ (sim : Shown). sim.words ≡ words) (λ (sim : Shown). sim.words ≡ (sim_at sims mode).words)
        (λ sim h. h ∙ sym (all_get (λ (sim : Shown). sim.words ≡ words) sims mode no_sim within all)) sims all;
    within = within;
    here = here;
    state = state;
  }

-- ---- one of them is set

module _ (netlist : Netlist) (sims : List Shown) (mode : ℕ) (words : List ℕ) (new : Shown)
    (own_bases : map (λ (sim : Shown). sim.netlist) sims ≡ bases_of netlist)
    (all : AllByRecursion (λ (sim : Shown). sim.words ≡ words) sims)
    (within : mode < length sims)
    (same_netlist : new.netlist ≡ (sim_at sims mode).netlist)
    (same_words : new.words ≡ words) where
  abbrev put : List Shown
  put = set sims mode new

  pub put_bases : map (λ (sim : Shown). sim.netlist) put ≡ bases_of netlist
  put_bases = map-set_same own sims mode new no_sim same_netlist ∙ own_bases

  pub put_words : AllByRecursion (λ (sim : Shown). sim.words ≡ words) put
  put_words = all_set (λ (sim : Shown). sim.words ≡ words) sims mode new all same_words

  pub put_here : sim_at put mode ≡ new
  put_here = get_or-set_same sims mode new no_sim within

  put_within : mode < length put
  put_within = omega (arith, within, length-set sims mode new)

  pub put_sims : mode_in netlist.special new.state ≡ mode → IsState netlist new.state → AreSims netlist put mode
  put_sims here state =
      are_sims netlist put put_bases mode words put_words put_within
      (ap (λ (sim : Shown). mode_in netlist.special sim.state) put_here ∙ here)
      (subst (λ (sim : Shown). IsState netlist sim.state) (sym put_here) state)

  pub put_shown : shown_by netlist put mode ≡ record new { netlist = netlist }
  put_shown = ap (λ (sim : Shown). record sim { netlist = netlist }) put_here

-- ---- one of them is put into a state

module _ (netlist : Netlist) (sims : List Shown) (own_bases : map (λ (sim : Shown). sim.netlist) sims ≡ bases_of netlist) (start : State)
    (fits : IsState netlist start) (mode : ℕ) (mode_is : mode ≡ mode_in netlist.special start) where
  -- the mode of the state has a simulator
  pub start_within : mode < length sims
  start_within = let small = mode_in_sims netlist sims own_bases start fits in omega (arith, small, mode_is)

  module _ (old : Shown) (is : old ≡ get_or sims mode old) where
    was : old ≡ sim_at sims mode
    was = is ∙ get_or_default sims mode old no_sim start_within

    -- which the state fits
    pub start_fits : IsState old.netlist start
    start_fits =
        subst (λ (n : Netlist). IsState n start) (sym (ap own was ∙ base_in_sims netlist sims own_bases mode start_within)) (state_at_base netlist mode start fits)

    module _ (words : List ℕ) (all : AllByRecursion (λ (sim : Shown). sim.words ≡ words) sims)
        (unwritten : AllByRecursion (λ (sim : Shown). sim.last_write ≡ None) sims) (new : Shown) (put_is : new ≡ record old { state = start }) where
      same_netlist : new.netlist ≡ (sim_at sims mode).netlist
      same_netlist = ap own put_is ∙ ap own was

      same_words : new.words ≡ words
      same_words = ap (λ (sim : Shown). sim.words) (put_is ∙ ap (λ (sim : Shown). record sim { state = start }) was) ∙ all_get (λ (sim : Shown). sim.words ≡ words) sims mode no_sim start_within all

      wrote_none : new.last_write ≡ None
      wrote_none =
          ap (λ (sim : Shown). sim.last_write) (put_is ∙ ap (λ (sim : Shown). record sim { state = start }) was)
          ∙ all_get (λ (sim : Shown). sim.last_write ≡ None) sims mode no_sim start_within unwritten

      same_state : new.state ≡ start
      same_state = ap (λ (sim : Shown). sim.state) put_is

      pub started : AreSims netlist (set sims mode new) mode
      started =
          put_sims netlist sims mode words new own_bases all start_within same_netlist same_words
          (ap (mode_in netlist.special) same_state ∙ sym mode_is) (subst (IsState netlist) (sym same_state) fits)

      pub started_shown : shown_by netlist (set sims mode new) mode ≡ record { netlist = netlist; words = words; state = start; last_write = None }
      started_shown =
          put_shown netlist sims mode words new own_bases all start_within same_netlist same_words
          ∙ (λ i. record { netlist = netlist; words = same_words i; state = same_state i; last_write = wrote_none i })

-- ---- two of them trade

module _ (netlist : Netlist) (sims : List Shown) (from to : ℕ) (words : List ℕ)
    (own_bases : map (λ (sim : Shown). sim.netlist) sims ≡ bases_of netlist)
    (all : AllByRecursion (λ (sim : Shown). sim.words ≡ words) sims)
    (from_within : from < length sims) (to_within : to < length sims) (apart : to ≢ from) where
  abbrev a : Shown
  a = sim_at sims from

  abbrev b : Shown
  b = sim_at sims to

  abbrev first : List Shown
  first = set sims from (holding a b)

  to_stays : sim_at first to ≡ b
  to_stays = get_or-set_other sims from to (holding a b) no_sim apart

  trade_bases : map (λ (sim : Shown). sim.netlist) (traded sims from to) ≡ bases_of netlist
  trade_bases =
      map-set_same own first to (holding b a) no_sim (ap own (sym to_stays))
      ∙ map-set_same own sims from (holding a b) no_sim refl
      ∙ own_bases

  trade_words : AllByRecursion (λ (sim : Shown). sim.words ≡ words) (traded sims from to)
  trade_words =
      all_set (λ (sim : Shown). sim.words ≡ words) first to (holding b a)
      (all_set (λ (sim : Shown). sim.words ≡ words) sims from (holding a b) all (all_get (λ (sim : Shown). sim.words ≡ words) sims from no_sim from_within all))
      (all_get (λ (sim : Shown). sim.words ≡ words) sims to no_sim to_within all)

  trade_here : sim_at (traded sims from to) to ≡ holding b a
  trade_here = get_or-set_same first to (holding b a) no_sim (omega (arith, to_within, length-set sims from (holding a b)))

  trade_within : to < length (traded sims from to)
  trade_within = omega (arith, to_within, length-set sims from (holding a b), length-set first to (holding b a))

  pub trade_sims : mode_in netlist.special a.state ≡ to → IsState netlist a.state → AreSims netlist (traded sims from to) to
  trade_sims here state =
      are_sims netlist (traded sims from to) trade_bases to words trade_words trade_within
      (ap (λ (sim : Shown). mode_in netlist.special sim.state) trade_here ∙ here)
      (subst (λ (sim : Shown). IsState netlist sim.state) (sym trade_here) state)

  -- what is shown then is what the other held
  pub trade_shown : shown_by netlist (traded sims from to) to ≡ record a { netlist = netlist; words = words }
  trade_shown =
      ap (λ (sim : Shown). record sim { netlist = netlist }) trade_here
      ∙ ap (λ (ws : List ℕ). record a { netlist = netlist; words = ws }) (all_get (λ (sim : Shown). sim.words ≡ words) sims to no_sim to_within all)

-- ---- two trade by a third

-- the simulators at the two places are read and set in turn
module _ (sims : List Shown) (from to : ℕ) (spare : Shown) (from_within : from < length sims) (to_within : to < length sims) (apart : to ≢ from) where
  module _ (x : Shown) (x_is : x ≡ get_or sims from x) where
    pub first_at : x ≡ sim_at sims from
    first_at = x_is ∙ get_or_default sims from x no_sim from_within

    abbrev once : List Shown
    once = set sims from (holding x spare)

    module _ (y : Shown) (y_is : y ≡ get_or once to y) where
      pub second_at : y ≡ sim_at sims to
      second_at = y_is ∙ get_or-set_other sims from to (holding x spare) y apart ∙ get_or_default sims to y no_sim to_within

      abbrev twice : List Shown
      twice = set once to (holding y (holding spare x))

      module _ (z : Shown) (z_is : z ≡ get_or twice from z) where
        pub third_at : z ≡ holding x spare
        third_at =
            z_is
            ∙ get_or-set_other once to from (holding y (holding spare x)) z (λ e. apart (sym e))
            ∙ get_or-set_same sims from (holding x spare) z from_within

        pub traded_at : set twice from (holding z (holding (holding spare x) y)) ≡ traded sims from to
        traded_at =
            ap (λ (sim : Shown). set twice from (holding sim (holding (holding spare x) y))) third_at
            ∙ set_around sims from to (holding x spare) (holding x y) (holding y x) apart
            ∙ (λ i. set (set sims from (holding (first_at i) (second_at i))) to (holding (second_at i) (first_at i)))

-- ---- a clock of the simulator that holds the state

module _ (netlist : Netlist) (sims : List Shown) (mode : ℕ) (are : AreSims netlist sims mode) where
  abbrev held : Shown
  held = sim_at sims mode

  held_netlist : held.netlist ≡ base_at netlist mode
  held_netlist = base_in_sims netlist sims are.bases mode are.within

  -- what is read at the mode's place holds the state
  pub held_by : (sim : Shown) → sim ≡ get_or sims mode sim → IsHeldBy (shown_by netlist sims mode) sim
  held_by sim is =
      let was : sim ≡ held = is ∙ get_or_default sims mode sim no_sim are.within in
      subst (IsHeldBy (shown_by netlist sims mode)) (sym was) (record {
        netlist = held_netlist ∙ ap (base_at netlist) (sym are.here);
        words = refl;
        state = refl;
        last_write = refl;
        fits = subst (λ (n : Netlist). IsState n held.state) (sym held_netlist) (state_at_base netlist mode held.state are.state);
      })

-- the simulator at the mode's place made a clock
pub record IsClocked (netlist : Netlist) (sims : List Shown) (mode : ℕ) (old new : Shown) (clocked : Clocked) : Type 0 where
  pub are : AreSims netlist sims mode
  pub is : old ≡ get_or sims mode old
  pub same_netlist : new.netlist ≡ old.netlist
  pub same_words : new.words ≡ old.words
  pub clocks : Clocks old new clocked
  pub fits : IsState new.netlist new.state

module _ {netlist : Netlist} {sims : List Shown} {mode : ℕ} {old new : Shown} {clocked : Clocked} (k : IsClocked netlist sims mode old new clocked) where
  abbrev at_place : Shown
  at_place = sim_at sims mode

  abbrev next : List Shown
  next = set sims mode new

  at_netlist : at_place.netlist ≡ base_at netlist mode
  at_netlist = base_in_sims netlist sims k.are.bases mode k.are.within

  old_is : old ≡ at_place
  old_is = k.is ∙ get_or_default sims mode old no_sim k.are.within

  new_netlist : new.netlist ≡ at_place.netlist
  new_netlist = k.same_netlist ∙ ap own old_is

  new_words : new.words ≡ at_place.words
  new_words = k.same_words ∙ ap (λ (sim : Shown). sim.words) old_is

  -- the new state fits the netlist
  pub clocked_state : IsState netlist new.state
  clocked_state = state_of_base netlist mode new.state (subst (λ (n : Netlist). IsState n new.state) (new_netlist ∙ at_netlist) k.fits)

  -- and is read where it was put
  pub read_back : (sim : Shown) → sim ≡ get_or next mode sim → sim ≡ new
  read_back sim e = e ∙ get_or-set_same sims mode new sim k.are.within

  whole : Clocks (shown_by netlist sims mode) (record new { netlist = netlist }) clocked
  whole =
      subst (λ (sim : Shown). Clocks (record sim { netlist = netlist }) (record new { netlist = netlist }) clocked) old_is
      (clocks_same netlist mode old new clocked (ap own old_is ∙ at_netlist) (ap (λ (sim : Shown). mode_in netlist.special sim.state) old_is ∙ k.are.here) k.clocks)

  next_bases : map (λ (sim : Shown). sim.netlist) next ≡ bases_of netlist
  next_bases = put_bases netlist sims mode at_place.words new k.are.bases k.are.words k.are.within new_netlist new_words

  next_words : AllByRecursion (λ (sim : Shown). sim.words ≡ at_place.words) next
  next_words = put_words netlist sims mode at_place.words new k.are.bases k.are.words k.are.within new_netlist new_words

  next_here : sim_at next mode ≡ new
  next_here = put_here netlist sims mode at_place.words new k.are.bases k.are.words k.are.within new_netlist new_words

  next_long : length next ≡ length sims
  next_long = length-set sims mode new

  from_within : mode < length next
  from_within = let within = k.are.within in omega (arith, within, next_long)

  pub next_here_alike : AreAlike (sim_at next mode).netlist netlist
  next_here_alike = base_alike netlist (sim_at next mode).netlist mode (base_in_sims netlist next next_bases mode from_within)

  -- where the mode stays
  pub stays : mode_in netlist.special new.state ≡ mode → AreSims netlist next mode
  stays here = put_sims netlist sims mode at_place.words new k.are.bases k.are.words k.are.within new_netlist new_words here clocked_state

  pub stays_clocks : Clocks (shown_by netlist sims mode) (shown_by netlist next mode) clocked
  stays_clocks =
      subst (λ (sim : Shown). Clocks (shown_by netlist sims mode) sim clocked)
      (sym (put_shown netlist sims mode at_place.words new k.are.bases k.are.words k.are.within new_netlist new_words)) whole

  -- where it is another, and the simulators trade
  module _ (to : ℕ) (to_is : to ≡ mode_in netlist.special new.state) (apart : to ≢ mode) where
    pub to_within : to < length next
    to_within = let small = mode_in_sims netlist sims k.are.bases new.state clocked_state in omega (arith, small, to_is, next_long)

    next_base : AreAlike (sim_at next to).netlist netlist
    next_base = base_alike netlist (sim_at next to).netlist to (base_in_sims netlist next next_bases to to_within)

    pub next_alike : AreAlike (sim_at next mode).netlist (sim_at next to).netlist
    next_alike = next_here_alike ∙ sym next_base

    pub trades : AreSims netlist (traded next mode to) to
    trades =
        trade_sims netlist next mode to at_place.words next_bases next_words from_within to_within apart
        (ap (λ (sim : Shown). mode_in netlist.special sim.state) next_here ∙ sym to_is)
        (subst (λ (sim : Shown). IsState netlist sim.state) (sym next_here) clocked_state)

    shown_then : shown_by netlist (traded next mode to) to ≡ record new { netlist = netlist }
    shown_then =
        trade_shown netlist next mode to at_place.words next_bases next_words from_within to_within apart
        ∙ ap (λ (sim : Shown). record sim { netlist = netlist; words = at_place.words }) next_here
        ∙ ap (λ (words : List ℕ). record new { netlist = netlist; words = words }) (sym new_words)

    pub trades_words : (shown_by netlist (traded next mode to) to).words ≡ at_place.words
    trades_words = ap (λ (sim : Shown). sim.words) shown_then ∙ new_words

    pub trades_clocks : Clocks (shown_by netlist sims mode) (shown_by netlist (traded next mode to) to) clocked
    trades_clocks = subst (λ (sim : Shown). Clocks (shown_by netlist sims mode) sim clocked) (sym shown_then) whole
