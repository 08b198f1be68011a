use Rattle.std.proofs.Common.{◌≡◌, ◌++◌, take}
use Rattle.std.specs.List.{flat_map}
use Rattle.code_model.specs.ImageText.{place_line}
use Rattle.image_text.proofs.writing.put_places.Given as goal

abbrev pub invariant-loop-place : goal.invariant-loop-place
invariant-loop-place l = l.out.items ≡ l.initial.out.items ++ flat_map place_line (take l.place-index l.places)
