use Rattle.std.proofs.Common.{ℕ, ◌≤◌, ◌<◌, ◌+◌, ◌^◌, subst, sym, arith}
use Rattle.src_model.specs.Meaning.{cell_count}
use Rattle.src_model.specs.Rules.{temp_count}
use Rattle.src_model.specs.Written.{model_of_program}
use Rattle.code_model.specs.declared.image.Places.{Places}
use Rattle.src_trees.specs.Held.{HoldsVars, LieWithin}
use Rattle.src_trees.proofs.Cells.{row_held, row_room}
use Rattle.row_texts.proofs.cover_text.jobs_of.Goals as goal

pub lower-blocks-requires-clause-held : goal.lower-blocks-requires-clause-held
lower-blocks-requires-clause-held c =
    let typed = c.args.typed.now in
    let program = model_of_program typed.program in
    let temps = temp_count typed.width program in
    let enough : temps + cell_count program.vars ≤ c.args.words = c.in-Ok.ensures.enough in
    let each : c.args.words ≤ 2 ^ c.args.addr_width = c.if-not-can_name.ensures.each in
    subst (λ (places : Places). HoldsVars places.temps program.vars (record { word = typed.width; addr = c.args.addr_width; places = places.list })) (sym c.in-Ok.ensures.places)
    (row_held typed.width c.args.addr_width temps program.vars (record {
      some = c.if-not-can_name.ensures.some;
      narrow = subst (λ (width : ℕ). c.args.addr_width ≤ width) c.width.ensures.value c.if-not-can_name.ensures.narrow;
      reach = omega (arith, enough, each);
    }))

pub lower-blocks-requires-clause-few : goal.lower-blocks-requires-clause-few
lower-blocks-requires-clause-few c =
    let typed = c.args.typed.now in
    let program = model_of_program typed.program in
    let temps = temp_count typed.width program in
    let enough : temps + cell_count program.vars ≤ c.args.words = c.in-Ok.ensures.enough in
    let fits : c.args.words < 2 ^ 32 = c.ranges.words.fits in
    subst (λ (places : Places). LieWithin places.temps (2 ^ 32) places.list) (sym c.in-Ok.ensures.places)
    (row_room temps (2 ^ 32) program.vars (omega (arith, enough, fits)))
