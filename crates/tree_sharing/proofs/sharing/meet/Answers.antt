use Rattle.std.proofs.Common.{sym, ap, ◌∙◌}
use Rattle.std.specs.Option.{option_copied}
use Rattle.tree_sharing.proofs.SharingLemmas.{meets_known, meets_new}
use Rattle.tree_sharing.proofs.sharing.meet.Goals as goal

pub returns-in-Some : goal.returns-in-Some
returns-in-Some c =
    meets_known c.args.roots.now.entries c.args.root c.args.at c.in-Some.known.now
    (sym c.get.ensures.value ∙ ap option_copied c.in-Some.is)

pub returns : goal.returns
returns c =
    meets_new c.args.roots.now.entries c.insert.new.self.entries c.args.root c.args.at
    (sym c.get.ensures.value ∙ ap option_copied c.in_default.is) c.in_ok-insert.ensures.entries
