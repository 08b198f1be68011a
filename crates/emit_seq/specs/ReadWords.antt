-- Forms whose reads of the memory are of words of so many bits, as those of one memory are.
use Rattle.std.specs.Prelude.{ℕ, ◌≡◌, List, Option, Some, None, slice_get}
use Rattle.net_model.specs.declared.hardware.Space.TheVariants.{Memory as InMemory, File as InFile}
use Rattle.net_model.specs.Exprs.{ExprModel, word, reg, const, read, un, bin, slice, cat, zext, sext, select}
use Rattle.form_model.specs.Forms.{FormModel}

abbrev pub ReadsWords : ℕ → ExprModel → Type 0
ReadsWords bits (word w) = Unit {0}
ReadsWords bits (reg r w) = Unit {0}
ReadsWords bits (const w v) = Unit {0}
ReadsWords bits (read InMemory a w) = (w ≡ bits) × ReadsWords bits a
ReadsWords bits (read InFile a w) = ReadsWords bits a
ReadsWords bits (un o a) = ReadsWords bits a
ReadsWords bits (bin o a b) = ReadsWords bits a × ReadsWords bits b
ReadsWords bits (slice a hi lo) = ReadsWords bits a
ReadsWords bits (cat a b) = ReadsWords bits a × ReadsWords bits b
ReadsWords bits (zext a w) = ReadsWords bits a
ReadsWords bits (sext a w) = ReadsWords bits a
ReadsWords bits (select c a b) = ReadsWords bits c × ReadsWords bits a × ReadsWords bits b

abbrev pub AddressReadsWords : ℕ → Option ExprModel → Type 0
AddressReadsWords bits None = Unit {0}
AddressReadsWords bits (Some addr) = ReadsWords bits addr

-- each form of the list reads such words, in its address and in its value
abbrev pub AllReadWords : ℕ → List FormModel → Type 0
AllReadWords bits forms =
    (k : ℕ) (form : FormModel) → slice_get forms k ≡ Some form →
    AddressReadsWords bits form.addr × ReadsWords bits form.value
