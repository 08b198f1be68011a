-- Worked terms: how they are written, and what is read.
use Rattle.std.specs.Prelude.{◌≡◌, codes, refl}
use Rattle.std.specs.Fmt.{digits}
use Rattle.view_terms.specs.Terms.{name, number, constant, one, two, three, term_text}

-- the sum of a register and a number
sum : term_text (two (codes "add") (name (codes "R1")) (constant 4 16)) ≡ codes "add(R1,4#16)"
unfolding digits
sum = refl

-- the low half of a product's sum
half : term_text (three (codes "slice") (two (codes "add") (name (codes "MR")) (one (codes "neg") (name (codes "MX")))) (number 15) (number 0))
    ≡ codes "slice(add(MR,neg(MX)),15,0)"
unfolding digits
half = refl
