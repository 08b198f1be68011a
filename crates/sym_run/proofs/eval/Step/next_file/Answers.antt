use Rattle.std.proofs.Common.{◌≡◌, ℕ, List, Some, None, Option, slice_get, sym, subst, ap, ◌∙◌, refl}
use Rattle.sym_run.specs.declared.moves.Move.{Move}
use Rattle.sym_run.specs.declared.moves.Move.TheVariants.{Keep, Write, WriteAt}
use Rattle.sym_run.specs.Moves.{IsNextFile, transfer_of}
use Rattle.sym_run.proofs.Writing.{file_same, if_ok}
use Rattle.sym_run.proofs.eval.Step.next_file.Goals as goal

pub filed-requires-clause-addr : goal.filed-requires-clause-addr
filed-requires-clause-addr c = (c.requires c.args.file (WriteAt c.in-Some-WriteAt.addr c.in-Some-WriteAt.value) (sym c.move_of.ensures ∙ c.in-Some-WriteAt.is ∙ ap Some c.in-Some-WriteAt.field-0-is)).0

pub filed-requires-clause-value : goal.filed-requires-clause-value
filed-requires-clause-value c = (c.requires c.args.file (WriteAt c.in-Some-WriteAt.addr c.in-Some-WriteAt.value) (sym c.move_of.ensures ∙ c.in-Some-WriteAt.is ∙ ap Some c.in-Some-WriteAt.field-0-is)).1

pub returns-in-Some-WriteAt-clause-is : goal.returns-in-Some-WriteAt-clause-is
returns-in-Some-WriteAt-clause-is c =
    let there : Some (WriteAt c.in-Some-WriteAt.addr c.in-Some-WriteAt.value) ≡ slice_get c.args.moves.now c.args.file = sym (sym c.move_of.ensures ∙ c.in-Some-WriteAt.is ∙ ap Some c.in-Some-WriteAt.field-0-is) in
    if_ok c.filed.result _ _ (λ (next : List (Option ℕ)) h. subst (λ (m : Option Move). IsNextFile c.args.table.now c.filed.new.table c.args.self.now.facts.now c.args.self.now.known.now c.args.self.now.word (transfer_of c.args.self.now.pool.now m) next) there h) c.filed.ensures.is

pub returns-in-Some-Write-clause-is : goal.returns-in-Some-Write-clause-is
returns-in-Some-Write-clause-is c =
    let t = c.args.table.now in
    let facts = c.args.self.now.facts.now in
    let known = c.args.self.now.known.now in
    let i = c.args.self.now.word in
    let pool = c.args.self.now.pool.now in
    let there : Some (Write c.in-Some-Write._value) ≡ slice_get c.args.moves.now c.args.file = sym (sym c.move_of.ensures ∙ c.in-Some-Write.is ∙ ap Some c.in-Some-Write.field-0-is) in
    if_ok c.same_file.result _ _ (λ (next : List (Option ℕ)) e. subst (λ (m : Option Move). IsNextFile t t facts known i (transfer_of pool m) next) there
    (file_same facts known i t (transfer_of pool (Some (Write c.in-Some-Write._value))) next (λ s. refl) e)) c.same_file.ensures

pub returns-in-Some-Keep-clause-is : goal.returns-in-Some-Keep-clause-is
returns-in-Some-Keep-clause-is c =
    let t = c.args.table.now in
    let facts = c.args.self.now.facts.now in
    let known = c.args.self.now.known.now in
    let i = c.args.self.now.word in
    let pool = c.args.self.now.pool.now in
    let there : Some Keep ≡ slice_get c.args.moves.now c.args.file = sym (sym c.move_of.ensures ∙ c.in-Some-Keep.is ∙ ap Some c.in-Some-Keep.field-0-is) in
    if_ok c.same_file-in-Some-Keep.result _ _ (λ (next : List (Option ℕ)) e. subst (λ (m : Option Move). IsNextFile t t facts known i (transfer_of pool m) next) there
    (file_same facts known i t (transfer_of pool (Some Keep)) next (λ s. refl) e)) c.same_file-in-Some-Keep.ensures

pub returns-in-None-clause-is : goal.returns-in-None-clause-is
returns-in-None-clause-is c =
    let t = c.args.table.now in
    let facts = c.args.self.now.facts.now in
    let known = c.args.self.now.known.now in
    let i = c.args.self.now.word in
    let pool = c.args.self.now.pool.now in
    let there : None ≡ slice_get c.args.moves.now c.args.file = sym (sym c.move_of.ensures ∙ c.in-None.is) in
    if_ok c.same_file-in-None.result _ _ (λ (next : List (Option ℕ)) e. subst (λ (m : Option Move). IsNextFile t t facts known i (transfer_of pool m) next) there
    (file_same facts known i t (transfer_of pool (None)) next (λ s. refl) e)) c.same_file-in-None.ensures
