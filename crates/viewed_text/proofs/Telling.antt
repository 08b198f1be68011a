-- What the exits of the reader tell.
use Rattle.std.proofs.Common.{◌≡◌, ℕ, ◌≤◌, ◌<◌, ◌^◌, List, length, sym, subst}
use Rattle.net_model.specs.declared.hardware.Netlist.{Netlist}
use Rattle.rec_bits.specs.declared.fault.ParseFault.{ParseFault}
use Rattle.rec_bits.specs.declared.fault.ParseFault.TheVariants.{Memory}
use Rattle.code_model.specs.declared.image.Image.{Image}
use Rattle.code_model.specs.declared.limits.Limits.{Limits}
use Rattle.code_model.specs.ImageFits.{limits_of}
use Rattle.code_model.specs.ImageLines.{IsImageRefusal, IsImageText}
use Rattle.image_text.proofs.Whole.{Narrow}
use Rattle.view_lines.specs.Remarks.{RemarkModel}
use Rattle.viewed_text.specs.Texts.{IsRemarkedRefusal, IsRemarkedText}
use Rattle.viewed_text.specs.Inner.Behind.{AreReadOf, IsParted, StopOf}
use Rattle.viewed_text.proofs.Whole.{FrontIs, found, found_only, only_memory, refused_behind, refused_front}

-- limits that are those of a netlist
pub record AreLimits (netlist : Netlist) (limits : Limits) : Type 0 where
  pub same : limits ≡ limits_of netlist
  pub some : 1 ≤ limits.bits
  pub narrow : limits.bits ≤ 64
  pub words : limits.words < 2 ^ 32

module _ (netlist : Netlist) (limits : Limits) (are : AreLimits netlist limits) (bytes front rest : List ℕ) (parted : IsParted bytes front rest) where
  is_narrow : Narrow (limits_of netlist)
  is_narrow = subst Narrow are.same (record { some = are.some; narrow = are.narrow; words = are.words })

  pub front_refused : (fault : ParseFault) → IsImageRefusal limits front fault → IsRemarkedRefusal netlist bytes fault
  front_refused fault h =
      let own : IsImageRefusal (limits_of netlist) front fault = subst (λ l. IsImageRefusal l front fault) are.same h in
      refused_front netlist is_narrow bytes front rest parted fault (λ at q. subst (IsImageRefusal (limits_of netlist) front) q own)

  pub front_only : (fault : ParseFault) → IsImageRefusal limits front fault → (image : Image) (remarks : List RemarkModel) → IsRemarkedText netlist bytes image remarks → fault ≡ Memory
  front_only fault h image remarks t = only_memory netlist is_narrow bytes fault (front_refused fault h) image remarks t

  module _ (image : Image) (is : IsImageText limits front image) (only : (other : Image) → IsImageText limits front other → image ≡ other) where
    front_is : FrontIs netlist is_narrow front image
    front_is = record {
      is = subst (λ l. IsImageText l front image) are.same is;
      only = λ (other : Image) (t : IsImageText (limits_of netlist) front other). only other (subst (λ l. IsImageText l front other) (sym are.same) t);
    }

    pub behind_refused : (fault : ParseFault) → StopOf netlist image rest (length bytes) fault → IsRemarkedRefusal netlist bytes fault
    behind_refused fault s = refused_behind netlist is_narrow bytes front rest image parted front_is fault s

    pub behind_only : (fault : ParseFault) → StopOf netlist image rest (length bytes) fault → (other : Image) (remarks : List RemarkModel) → IsRemarkedText netlist bytes other remarks → fault ≡ Memory
    behind_only fault s other remarks t = only_memory netlist is_narrow bytes fault (behind_refused fault s) other remarks t

    pub text_read : (remarks : List RemarkModel) → AreReadOf netlist image rest remarks → IsRemarkedText netlist bytes image remarks
    text_read remarks read = found netlist is_narrow bytes front rest image remarks parted front_is read

    pub text_only : (remarks : List RemarkModel) → AreReadOf netlist image rest remarks → (other : Image) (said : List RemarkModel) → IsRemarkedText netlist bytes other said → (image ≡ other) × (remarks ≡ said)
    text_only remarks read other said t = found_only netlist is_narrow bytes front rest image remarks parted front_is read other said t
