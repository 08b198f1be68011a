-- When steps have one destination, by what they write.
use Rattle.std.proofs.Common.{◌≡◌, ◌==◌, ◌&&◌, not, if◌then◌else◌, Bool, true, false, true≢false, refl, sym, ap}
use Rattle.net_model.specs.declared.hardware.Space.{Space}
use Rattle.net_model.specs.declared.hardware.Space.TheVariants.{Memory as InMemory, File as InFile}
use Rattle.form_model.specs.Effects.{Operation, is_store, location_of, may_see, same_cells, same_destination, same_space}
use Rattle.word_fit.specs.Fits.{stores_in}

same_turned : (s : Space) → same_space InMemory s ≡ same_space s InMemory
same_turned InMemory = refl
same_turned InFile = refl

-- by whether they write cells, and of which space
from_file : (a b rest : Bool) (s : Space) (c d : Operation) → (a && same_space s InFile) ≡ true → (if a then b && same_cells s c d else rest) ≡ (b && may_see (location_of c) (location_of d))
from_file true b rest InFile c d e = refl
from_file true b rest InMemory c d e = absurd (true≢false (sym e))
from_file false b rest s c d e = absurd (true≢false (sym e))

from_memory : (a b rest : Bool) (s : Space) (c d : Operation) → (a && same_space s InMemory) ≡ true → (if a then b && same_cells s c d else rest) ≡ (b && same_space d.space InMemory)
from_memory true b rest InMemory c d e = ap (λ k. b && k) (same_turned d.space)
from_memory true b rest InFile c d e = absurd (true≢false (sym e))
from_memory false b rest s c d e = absurd (true≢false (sym e))

from_neither : (a b rest : Bool) (s : Space) (c d : Operation) → (a && same_space s InFile) ≡ false → (a && same_space s InMemory) ≡ false → (if a then b && same_cells s c d else rest) ≡ rest
from_neither true b rest InMemory c d e f = absurd (true≢false f)
from_neither true b rest InFile c d e f = absurd (true≢false e)
from_neither false b rest s c d e f = refl

pub file_shares : (c d : Operation) → stores_in InFile c ≡ true → same_destination c d ≡ (is_store d.move && may_see (location_of c) (location_of d))
file_shares c d e = from_file (is_store c.move) (is_store d.move) (not (is_store d.move) && (c.storage == d.storage)) c.space c d e

pub memory_shares : (c d : Operation) → stores_in InMemory c ≡ true → same_destination c d ≡ stores_in InMemory d
memory_shares c d e = from_memory (is_store c.move) (is_store d.move) (not (is_store d.move) && (c.storage == d.storage)) c.space c d e

pub register_shares : (c d : Operation) → stores_in InFile c ≡ false → stores_in InMemory c ≡ false → same_destination c d ≡ (not (is_store d.move) && (c.storage == d.storage))
register_shares c d e f = from_neither (is_store c.move) (is_store d.move) (not (is_store d.move) && (c.storage == d.storage)) c.space c d e f
