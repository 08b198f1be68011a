use Rattle.std.proofs.Common.{◌≡◌, ◌≤◌, ℕ, length, sym, subst, ◌∙◌}
use Rattle.std.specs.Prelude.{vec_capacity}
use Rattle.state_text.specs.Shown.{state_text, state_room}
use Rattle.state_text.proofs.Rooms.{text_short}
use Rattle.state_text.proofs.writing.text_room.Goals as goal

pub returns-clause-room : goal.returns-clause-room
returns-clause-room c = λ cycles state h s.
    let n = c.args.checked.now.netlist in
    let p : length (state_text n cycles state) ≤ state_room n = text_short n c.args.checked.now.order cycles state c.netlist-netlist.ensures.kept s h in
    let e : state_room n ≡ vec_capacity c.in_ok-with_capacity.field-0 = sym (c.in_ok-with_capacity.ensures.exact ∙ c.in-Some.ensures) in
    let P : ℕ → Type 0 = λ room. length (state_text n cycles state) ≤ room in
    subst P e p
