-- Words that fit the groups, clocked in order, leave what the groups leave.
use Rattle.std.proofs.Common.{◌≡◌, ℕ, suc, ◌+◌, ◌%◌, ◌<◌, ◌≤◌, ◌^◌, ◌||◌, List, [], ◌∷◌, length, refl, sym, ◌∙◌, ap, arith, subst}
use Rattle.std.proofs.Math.Nat.{mod-add-mod, mod-eq_of_lt}
use Rattle.std.proofs.lemmas.Bool.{or_left}
use Rattle.net_model.specs.declared.hardware.Netlist.{Netlist}
use Rattle.net_model.specs.declared.states.State.{State}
use Rattle.net_model.specs.CheckedRules.{KeepsRules}
use Rattle.net_model.specs.Nets.{counter_of, counter_width}
use Rattle.net_model.specs.Clock.{Reached, counter_in, run_from, then_run}
use Rattle.net_model.specs.Widths.{IsState}
use Rattle.form_model.specs.Effects.{Operation, apply_operation, group_effect, groups_effect, steps_effect}
use Rattle.form_model.specs.Live.{Regs, group_writes, live_before, singles}
use Rattle.word_fit.specs.Fits.{fits_over, FitsGroup}
use Rattle.word_fit.specs.Groups.{Agree, GroupsFit}
use Rattle.word_fit.specs.Runs.{IsClocked, StandAt, RunsTo}
use Rattle.word_fit.proofs.Words.{agree_less, agree_trans, effect_alike}
use Rattle.word_fit.proofs.Clocks.{clocks}

-- what a run leaves, from any cycle on
record RunsFrom (netlist : Netlist) (code : List ℕ) (s : State) (clocks : ℕ) (live : Regs) (t : State) : Type 0 where
  last : State
  is : (cycle : ℕ) → run_from cycle netlist code s clocks ≡ Reached last
  state : IsState netlist last
  counter : counter_in netlist last ≡ (counter_in netlist s + clocks) % 2 ^ counter_width netlist
  agree : Agree live last t

counter_fits : (netlist : Netlist) (s : State) → IsState netlist s → counter_in netlist s < 2 ^ counter_width netlist
counter_fits netlist s h = h.fits.regs (counter_of netlist.codes)

-- no clock, and the counter is where it is
stays : (netlist : Netlist) (s : State) → IsState netlist s → counter_in netlist s ≡ (counter_in netlist s + 0) % 2 ^ counter_width netlist
stays netlist s h =
    sym
    (ap (λ n. n % 2 ^ counter_width netlist) (let z : counter_in netlist s + 0 ≡ counter_in netlist s = omega arith in z)
    ∙ mod-eq_of_lt (counter_fits netlist s h))

-- the words behind a word stand from where the counter gets to, which is 0 only where there are none
module _ (code : List ℕ) (size at next : ℕ) (one : next ≡ (at + 1) % size) (within : next < size) where
  stand_on : (ws : List ℕ) → at + suc (length ws) ≤ size → StandAt code (at + 1) ws → StandAt code next ws
  stand_on [] b p = tt
  stand_on (w ∷ ws) b p = subst (λ n. StandAt code n (w ∷ ws)) (sym (one ∙ mod-eq_of_lt (omega (arith, b)))) p

  room_on : (ws : List ℕ) → at + suc (length ws) ≤ size → next + length ws ≤ size
  room_on [] b = omega (arith, within)
  room_on (w ∷ ws) b = let e : next ≡ at + 1 = one ∙ mod-eq_of_lt (omega (arith, b)) in omega (arith, e, b)

  counted_on : (last k : ℕ) → last ≡ (next + k) % size → last ≡ (at + suc k) % size
  counted_on last k e =
      e ∙ ap (λ n. (n + k) % size) one ∙ mod-add-mod (at + 1) size k
      ∙ ap (λ n. n % size) (let z : at + 1 + k ≡ at + suc k = omega arith in z)

module _ (netlist : Netlist) (order : List ℕ) (keeps : KeepsRules netlist order) (code : List ℕ) {A : Type 0} (m : A → Operation) (after : Regs) where
  runs : (ws : List ℕ) (gs : List (List A)) (s t : State) → GroupsFit m (fits_over netlist m) ws gs after → Agree (live_before m gs after) t s → IsState netlist t → StandAt code (counter_in netlist t) ws → counter_in netlist t + length ws ≤ 2 ^ counter_width netlist → RunsFrom netlist code t (length ws) after (groups_effect m gs s)
  runs [] [] s t f a h p b = record { last = t; is = λ cycle. refl; state = h; counter = stays netlist t h; agree = a }
  runs [] (g ∷ gs) s t f a h p b = absurd f
  runs (w ∷ ws) [] s t f a h p b = absurd f
  runs (w ∷ ws) (g ∷ gs) s t f a h p b =
      let l : Regs = live_before m gs after in
      let fit : FitsGroup netlist m w g l = f.0 in
      let d : IsClocked netlist m code g l t = clocks netlist order keeps code w t h fit.clean p.0 m g l fit in
      let size : ℕ = 2 ^ counter_width netlist in
      let within : counter_in netlist d.next < size = counter_fits netlist d.next d.state in
      let c : Agree (λ r. l r || group_writes m g r) (group_effect m g t) (group_effect m g s) = effect_alike m g l t s a in
      let r : RunsFrom netlist code d.next (length ws) after (groups_effect m gs (group_effect m g s)) =
      runs ws gs (group_effect m g s) d.next f.1
      (agree_less _ _ _ _ (λ r z. or_left (l r) (group_writes m g r) z) (agree_trans _ _ _ _ d.follows c)) d.state
      (stand_on code size (counter_in netlist t) _ d.counter within ws b p.1) (room_on code size (counter_in netlist t) _ d.counter within ws b) in
      record {
        last = r.last;
        is = λ cycle. ap (then_run cycle (λ u. run_from (cycle + 1) netlist code u (length ws))) d.clocked ∙ r.is (cycle + 1);
        state = r.state;
        counter = counted_on code size (counter_in netlist t) _ d.counter within _ (length ws) r.counter;
        agree = r.agree;
      }

  -- words that fit the groups, clocked in order from any state, leave what the groups leave
  pub runs_to : (ws : List ℕ) (gs : List (List A)) (s : State) → GroupsFit m (fits_over netlist m) ws gs after → IsState netlist s → StandAt code (counter_in netlist s) ws → counter_in netlist s + length ws ≤ 2 ^ counter_width netlist → RunsTo netlist code s (length ws) after (groups_effect m gs s)
  runs_to ws gs s f h p b =
      let r : RunsFrom netlist code s (length ws) after (groups_effect m gs s) = runs ws gs s s f (record { size = refl; cells = refl; file = refl; regs = λ r z. refl }) h p b in
      record { last = r.last; is = r.is 0; state = r.state; counter = r.counter; agree = r.agree }

-- one step in each group does what the steps do one after the other
pub effect-singles : {A : Type 0} (m : A → Operation) (xs : List A) (s : State) → groups_effect m (singles xs) s ≡ steps_effect m xs s
effect-singles m [] s = refl
effect-singles m (x ∷ xs) s = effect-singles m xs (apply_operation (m x) s s)

pub runs_steps : (netlist : Netlist) (order : List ℕ) → KeepsRules netlist order → {A : Type 0} (m : A → Operation) (code : List ℕ) (after : Regs) (ws : List ℕ) (xs : List A) (s : State) → GroupsFit m (fits_over netlist m) ws (singles xs) after → IsState netlist s → StandAt code (counter_in netlist s) ws → counter_in netlist s + length ws ≤ 2 ^ counter_width netlist → RunsTo netlist code s (length ws) after (steps_effect m xs s)
runs_steps netlist order keeps m code after ws xs s f h p b =
    subst (RunsTo netlist code s (length ws) after) (effect-singles m xs s) (runs_to netlist order keeps code m after ws (singles xs) s f h p b)
