use Rattle.std.proofs.Common.{sym, subst}
use Rattle.form_model.specs.Trees.{model_of_tree}
use Rattle.tree_grammar.specs.Leaves.{AddressStands, model_of_destination, value_at}
use Rattle.tree_sharing.specs.Inner.Sharing.{AreDoneBelow}
use Rattle.tree_sharing.proofs.SharingLemmas.{address_done}
use Rattle.tree_sharing.proofs.sharing.share_address.Goals as goal

pub returns-in_ok-share-in-Store-clause-done : goal.returns-in_ok-share-in-Store-clause-done
returns-in_ok-share-in-Store-clause-done c = λ nodes stands numbers.
    subst (λ d. AreDoneBelow nodes c.share.new.sharing (value_at (model_of_destination d) 0)) (sym c.in-Store.is)
    (address_done nodes c.args.sharing.now c.share.new.sharing c.in_ok-share-in-Store.field-0.first (model_of_tree c.in-Store.address.now) c.in_ok-share-in-Store.ensures.shared (subst (λ d. AddressStands nodes 0 (model_of_destination d)) c.in-Store.is stands) numbers)
