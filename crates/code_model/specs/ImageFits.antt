-- When an image fits a netlist: names are names, numbers lie below 2^32, marks ascend and none
-- follows the end, the patterns of a word ascend, and the words are as wide and at most as many as
-- its code has them.
use Rattle.std.specs.Prelude.{ℕ, ◌+◌, ◌^◌, ◌<◌, ◌≤◌, ◌≡◌, true, List, [], ◌∷◌, length, Option, Some, None}
use Rattle.std.specs.List.{AllByRecursion}
use Rattle.net_model.specs.declared.hardware.Netlist.{Netlist}
use Rattle.net_model.specs.declared.hardware.Code.{Code}
use Rattle.text_lines.specs.Fields.{is_name}
use Rattle.code_model.specs.declared.image.Image.{Image}
use Rattle.code_model.specs.declared.image.Mark.{Mark}
use Rattle.code_model.specs.declared.image.Place.{Place}
use Rattle.code_model.specs.declared.image.Word.{Word}
use Rattle.code_model.specs.declared.limits.Limits.{Limits}

-- ---- the code's limits

-- the bits of a word and the greatest number of words
abbrev pub limits_in : List Code → Limits
limits_in [] = record { bits = 0; words = 0 }
limits_in (code ∷ codes) = record { bits = code.bits; words = code.words }

abbrev pub limits_of : Netlist → Limits
limits_of netlist = limits_in netlist.codes

-- ---- places and costs

pub record PlaceFits (place : Place) : Type 0 where
  pub name : is_name place.name ≡ true
  pub address : place.address < 2 ^ 32
  pub len : place.len < 2 ^ 32

pub record CostFits (pair : ℕ × ℕ) : Type 0 where
  pub tree : pair.0 < 2 ^ 32
  pub cost : pair.1 < 2 ^ 32

-- ---- marks

abbrev pub LabelFits : Option ℕ → Type 0
LabelFits None = Unit {0}
LabelFits (Some tree) = tree < 2 ^ 32

pub record MarkFits (mark : Mark) : Type 0 where
  pub address : mark.address < 2 ^ 32
  pub label : LabelFits mark.label

-- a mark with a number
abbrev pub HasNumber : Option ℕ → Type 0
HasNumber None = ⊥
HasNumber (Some tree) = Unit {0}

-- a mark may follow one with a number at a lower address
abbrev pub MayFollow : Option Mark → Mark → Type 0
MayFollow None mark = Unit {0}
MayFollow (Some last) mark = (last.address < mark.address) × HasNumber last.label

-- each mark may follow the one before
abbrev pub AreMarksAfter : Option Mark → List Mark → Type 0
AreMarksAfter last [] = Unit {0}
AreMarksAfter last (mark ∷ marks) = MayFollow last mark × AreMarksAfter (Some mark) marks

-- ---- words

-- numbers below 2^32 from a number on, each above the one before
abbrev pub AscendFrom : ℕ → List ℕ → Type 0
AscendFrom from [] = Unit {0}
AscendFrom from (n ∷ ns) = (from ≤ n) × (n < 2 ^ 32) × AscendFrom (n + 1) ns

-- a word of so many bits, with patterns that ascend
pub record CodeFits (bits : ℕ) (code : Word) : Type 0 where
  pub word : code.word < 2 ^ bits
  pub patterns : AscendFrom 0 code.patterns

-- ---- images

-- names are names, numbers are below 2^32, marks ascend with the end as the last, and the words are
-- those of a code
pub record IsFitting (limits : Limits) (image : Image) : Type 0 where
  pub bits : image.bits ≡ limits.bits
  pub few : length image.words ≤ limits.words
  pub temps : image.temps < 2 ^ 32
  pub places : AllByRecursion PlaceFits image.places
  pub costs : AllByRecursion CostFits image.costs
  pub marks : AllByRecursion MarkFits image.marks
  pub in_order : AreMarksAfter None image.marks
  pub words : AllByRecursion (CodeFits limits.bits) image.words
