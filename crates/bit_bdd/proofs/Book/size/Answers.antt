use Rattle.std.proofs.Common.{◌≡◌, true, false, ap, subst}
use Rattle.bit_bdd.specs.Diagrams.{Diagrams, IsCanonical, bits_of, set_of}
use Rattle.bit_bdd.proofs.Canonical.{is_canonical, empty_set, full_set}
use Rattle.bit_bdd.proofs.CallerLemmas.{same_words}
use Rattle.bit_bdd.proofs.Book.size.Goals as goal

pub returns-clause-empty : goal.returns-clause-empty
returns-clause-empty c word =
    subst (λ (d : Diagrams). set_of d.nodes 0 (bits_of word) ≡ false) c.self.view_is (ap (λ s. s (bits_of word)) (empty_set _ c.self.invariant.reduced))

pub returns-clause-full : goal.returns-clause-full
returns-clause-full c word =
    subst (λ (d : Diagrams). set_of d.nodes 1 (bits_of word) ≡ true) c.self.view_is (ap (λ s. s (bits_of word)) (full_set _ c.self.invariant.reduced))

pub returns-clause-canonical : goal.returns-clause-canonical
returns-clause-canonical c = subst IsCanonical c.self.view_is (is_canonical _ c.self.invariant.reduced)

pub returns-clause-keeps : goal.returns-clause-keeps
returns-clause-keeps c older grows id word within = same_words older c.args.self.now grows id within word
