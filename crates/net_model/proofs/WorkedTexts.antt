-- How worked transfers are written.
use Rattle.std.proofs.Common.{◌≡◌, refl, codes, lit<}
use Rattle.std.proofs.lemmas.Fmt.{decimal_digit}
use Rattle.net_model.specs.declared.hardware.Space.TheVariants.{File as InFile}
use Rattle.net_model.specs.Transfers.{counter_transfer, memory_transfer, space_transfer}
use Rattle.net_model.specs.Texts.{text_of_transfer}
use Rattle.net_model.specs.Worked.{s8, z16}
use Rattle.net_model.specs.WorkedFile.{f4}

s8_steps : text_of_transfer s8 0 (counter_transfer s8 63) ≡ codes "PC := add(PC,1#4)"
s8_steps = rw (decimal_digit 1 (lit< tt), decimal_digit 4 (lit< tt)) refl

s8_writes : text_of_transfer s8 1 (memory_transfer s8 63) ≡ codes "M[slice(I,6,5)] := slice(I,4,0)"
s8_writes = rw (decimal_digit 6 (lit< tt), decimal_digit 5 (lit< tt), decimal_digit 4 (lit< tt), decimal_digit 0 (lit< tt)) refl

z16_branches : text_of_transfer z16 0 (counter_transfer z16 1795) ≡ codes "PC := select(Z,slice(I,7,0),add(PC,1#8))"
z16_branches = rw (decimal_digit 7 (lit< tt), decimal_digit 0 (lit< tt), decimal_digit 1 (lit< tt), decimal_digit 8 (lit< tt)) refl

f4_adds : text_of_transfer f4 1 (space_transfer f4 InFile 6) ≡ codes "R[slice(I,1,0)] := add(read(R,slice(I,3,2)),1#4)"
f4_adds = rw (decimal_digit 1 (lit< tt), decimal_digit 0 (lit< tt), decimal_digit 3 (lit< tt), decimal_digit 2 (lit< tt), decimal_digit 4 (lit< tt)) refl
