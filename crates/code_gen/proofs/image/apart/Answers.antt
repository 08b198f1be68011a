use Rattle.std.proofs.Common.{◌++◌, [], ◌∷◌, ◌∙◌, subst, sym}
use Rattle.std.proofs.lemmas.List.{map-append}
use Rattle.std.proofs.lemmas.Slice.Zip.{all_zipped_more}
use Rattle.isa_extract.specs.declared.netlists.Isa.{Isa}
use Rattle.code_gen.specs.Inner.Planning.{AreOperations, AreOperationsOf}
use Rattle.code_gen.proofs.image.apart.Goals as goal

pub loop-isa-preserved : goal.loop-isa-preserved
loop-isa-preserved c =
    let isa = c.in-Some.isa in
    let added = c.in_ok-push_apart.ensures.rest in
    record {
      books =
          c.in_ok-push_apart.ensures.book
          ∙ (λ j. c.loop-isa.invariant.books j ++ isa.book ∷ [])
          ∙ sym (map-append (λ (x : Isa). x.book) c.loop-isa.yielded (isa ∷ []));
      rest =
          subst (AreOperations (c.loop-isa.yielded ++ isa ∷ [])) (sym added.pushed)
          (all_zipped_more AreOperationsOf c.loop-isa.yielded c.loop-isa.rest.items isa added.operations c.loop-isa.invariant.rest added.are);
    }
