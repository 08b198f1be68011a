-- How many names, numbers and words a term has.
use Rattle.std.specs.Prelude.{ℕ, ◌+◌}
use Rattle.view_terms.specs.Terms.{TermModel, name, number, constant, one, two, three}

abbrev pub term_size : TermModel → ℕ
term_size (name n) = 1
term_size (number v) = 1
term_size (constant v w) = 1
term_size (one word a) = term_size a + 1
term_size (two word a b) = term_size a + term_size b + 1
term_size (three word a b c) = term_size a + term_size b + term_size c + 1
