-- The nodes of a tree that are as wide as a word: those that may need a temporary cell.
use Rattle.std.specs.Prelude.{ℕ, ◌+◌, ◌==◌, if◌then◌else◌}
use Rattle.net_model.specs.Exprs.{ExprModel, word, reg, const, read, un, bin, slice, cat, zext, sext, select, expr_width}
use Rattle.form_model.specs.Trees.{is_number}
use Rattle.form_model.specs.Forms.{DestinationModel, into, cell, filed, stored, temporary, tested}

-- 1 for a node of a word's width
abbrev pub word_node : ℕ → ℕ → ℕ
word_node bits width = if width == bits then 1 else 0

-- the nodes of a tree that are as wide as a word; a read at a literal address isn't counted, and is
-- one node
abbrev pub wide_nodes : ℕ → ExprModel → ℕ
wide_nodes bits (word w) = word_node bits w
wide_nodes bits (reg r w) = word_node bits w
wide_nodes bits (const w v) = word_node bits w
wide_nodes bits (read space a w) = if is_number a then 0 else word_node bits w + wide_nodes bits a
wide_nodes bits (un o a) = word_node bits (expr_width a) + wide_nodes bits a
wide_nodes bits (bin o a b) = word_node bits (expr_width (bin o a b)) + (wide_nodes bits a + wide_nodes bits b)
wide_nodes bits (slice a hi lo) = word_node bits (expr_width (slice a hi lo)) + wide_nodes bits a
wide_nodes bits (cat a b) = word_node bits (expr_width (cat a b)) + (wide_nodes bits a + wide_nodes bits b)
wide_nodes bits (zext a w) = word_node bits w + wide_nodes bits a
wide_nodes bits (sext a w) = word_node bits w + wide_nodes bits a
wide_nodes bits (select c a b) =
    word_node bits (expr_width a) + (wide_nodes bits c + (wide_nodes bits a + wide_nodes bits b))

-- those below the root
abbrev pub wide_below : ℕ → ExprModel → ℕ
wide_below bits (word w) = 0
wide_below bits (reg r w) = 0
wide_below bits (const w v) = 0
wide_below bits (read space a w) = if is_number a then 0 else wide_nodes bits a
wide_below bits (un o a) = wide_nodes bits a
wide_below bits (bin o a b) = wide_nodes bits a + wide_nodes bits b
wide_below bits (slice a hi lo) = wide_nodes bits a
wide_below bits (cat a b) = wide_nodes bits a + wide_nodes bits b
wide_below bits (zext a w) = wide_nodes bits a
wide_below bits (sext a w) = wide_nodes bits a
wide_below bits (select c a b) = wide_nodes bits c + (wide_nodes bits a + wide_nodes bits b)

-- those of a job's tree, but for the root that goes to the destination: with a store, whose root is
-- the store, all nodes of both trees are below it; what goes to a temporary cell counts itself
abbrev pub tree_temps : ℕ → DestinationModel → ExprModel → ℕ
tree_temps bits (stored address) t = wide_nodes bits address + wide_nodes bits t
tree_temps bits (into id) t = wide_below bits t
tree_temps bits (cell address) t = wide_below bits t
tree_temps bits temporary t = wide_nodes bits t
tree_temps bits filed t = wide_below bits t
tree_temps bits tested t = wide_below bits t
