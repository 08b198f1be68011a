-- Texts go by the limits of the code and by the storages: netlists that share these have the same.
use Rattle.std.proofs.Common.{◌≡◌, ℕ, List, [], ◌∷◌, ◌++◌, None, Some, sym, subst}
use Rattle.std.specs.Prelude.{slice_get}
use Rattle.net_model.specs.declared.hardware.Netlist.{Netlist}
use Rattle.net_model.specs.declared.hardware.Storage.{Storage}
use Rattle.net_model.specs.Nets.{memory_width}
use Rattle.code_model.specs.declared.image.Image.{Image}
use Rattle.code_model.specs.ImageFits.{IsFitting, limits_of}
use Rattle.view_lines.specs.Remarks.{RemarkModel}
use Rattle.viewed_text.specs.Texts.{AreRemarks, BeginRemarked, IsImageRead, IsRemarkedFault, IsRemarkedText}

pub record Shares (a b : Netlist) : Type 0 where
  pub limits : limits_of a ≡ limits_of b
  pub storages : a.storages ≡ b.storages

pub shares_back : (a b : Netlist) → Shares a b → Shares b a
shares_back a b s = record { limits = sym s.limits; storages = sym s.storages }

pub text_shared : (a b : Netlist) → Shares a b → (bytes : List ℕ) (image : Image) (remarks : List RemarkModel) → IsRemarkedText a bytes image remarks → IsRemarkedText b bytes image remarks
text_shared a b s bytes image remarks t = record {
  behind = t.behind;
  text = t.text;
  remarked = t.remarked;
  fits = subst (λ limits. IsFitting limits image) s.limits t.fits;
  remarks_fit = subst (λ (storages : List Storage). AreRemarks storages image (memory_width storages) None remarks) s.storages t.remarks_fit;
}

pub read_shared : (a b : Netlist) → Shares a b → (bytes : List ℕ) (image : Image) → IsImageRead a bytes image → IsImageRead b bytes image
read_shared a b s bytes image r = record { remarks = r.remarks; is = text_shared a b s bytes image r.remarks r.is }

begin_shared : (a b : Netlist) → Shares a b → (lines : List (List ℕ)) → BeginRemarked a lines → BeginRemarked b lines
begin_shared a b s lines t = record {
  more = t.more;
  bytes = t.bytes;
  image = t.image;
  remarks = t.remarks;
  lines_are = t.lines_are;
  is = text_shared a b s t.bytes t.image t.remarks t.is;
}

pub fault_shared : (a b : Netlist) → Shares a b → (bytes : List ℕ) (at : ℕ) → IsRemarkedFault a bytes at → IsRemarkedFault b bytes at
fault_shared a b s bytes at f = record {
  front = f.front;
  rest = f.rest;
  lines = f.lines;
  place = f.place;
  begins = begin_shared a b s f.front f.begins;
  next = λ (line : List ℕ) (e : slice_get f.rest 0 ≡ Some line) (t : BeginRemarked b (f.front ++ (line ∷ []))). f.next line e (begin_shared b a (shares_back a b s) (f.front ++ (line ∷ [])) t);
  whole = λ (image : Image) (remarks : List RemarkModel) (t : IsRemarkedText b bytes image remarks). f.whole image remarks (text_shared b a (shares_back a b s) bytes image remarks t);
}
