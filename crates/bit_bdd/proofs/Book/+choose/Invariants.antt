use Rattle.bit_bdd.specs.Shape.{top_level}
use Rattle.bit_bdd.proofs.Book.+choose.Given as goal

-- the highest level of the three
abbrev pub decreases-choose : goal.decreases-choose
decreases-choose l = top_level l.self.now.nodes l.test l.on l.off
