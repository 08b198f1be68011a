-- What was read of three texts is their task, and what was refused of one is refused of all.
use Rattle.std.proofs.Common.{◌≡◌, ℕ, ◌≤◌, List, Option, Some, map, refl, sym, ap, subst, ◌∙◌}
use Rattle.net_model.specs.declared.hardware.Netlist.{Netlist}
use Rattle.net_model.specs.Nets.{memory_width}
use Rattle.net_model.specs.Written.{UnitsModel}
use Rattle.net_model.specs.CheckedRules.{Ordered}
use Rattle.net_front.specs.Fronts.{IsCheckedOf, IsNetFile}
use Rattle.net_front.specs.Taken.{IsTakenRefusal}
use Rattle.net_front.specs.declared.front.NetRefusal.{NetRefusal}
use Rattle.net_front.specs.declared.front.NetRefusal.TheVariants.{Text as NoNet, Fault as BrokenNet, Memory as NetMemory}
use Rattle.rec_bits.specs.declared.fault.ParseFault.{ParseFault}
use Rattle.rec_bits.specs.declared.fault.ParseFault.TheVariants.{Text as NoImage, Memory as ImageMemory}
use Rattle.src_model.specs.declared.typed.Typed.{Typed}
use Rattle.src_model.specs.Written.{ProgramModel, model_of_program}
use Rattle.src_front.specs.Fronts.{BreaksSrcRule, IsSrcFile, IsSrcRefusal}
use Rattle.src_front.specs.declared.front.SrcRefusal.{SrcRefusal}
use Rattle.src_front.specs.declared.front.SrcRefusal.TheVariants.{Text as NoSrc, Fault as BrokenSrc, Memory as SrcMemory}
use Rattle.code_model.specs.declared.views.Viewed.{Viewed}
use Rattle.code_model.specs.declared.image.Image.{Image}
use Rattle.view_lines.specs.Remarks.{RemarkModel}
use Rattle.viewed_text.specs.Texts.{IsRemarkedFault, IsRemarkedRefusal, IsRemarkedText}
use Rattle.view_parts.specs.Said.{hidden_said, model_of_view, views_said}
use Rattle.check_command.specs.Checked.{IsCheckFault, IsCheckStop}
use Rattle.check_command.specs.Inner.Faults.{image_fault, nameless, net_fault, src_fault}
use Rattle.check_command.specs.Inner.Readings.{IsFollowFault, IsFollowStop, IsNetRead, IsNetStop, IsReadStop, IsSrcStop, IsViewedStop}
use Rattle.check_command.specs.Inner.Stops.{IsBroken, IsRuleTold, IsTaskStop, IsTaskTold, task_of}
use Rattle.check_command.specs.Rules.{KeepsImageRules}
use Rattle.check_command.specs.Tasks.{CheckTask, IsCheckTask, IsViewedText, checked_edition, word_bits}
use Rattle.check_command.specs.declared.fault.CheckFault.{CheckFault}
use Rattle.check_command.specs.declared.fault.CheckFault.TheVariants.{NetText, Net, SrcText, Src, ImageText, Rule, Follow, Memory}
use Rattle.check_command.specs.declared.fault.CheckStop.{CheckStop}

-- ---- one text

pub net_read : (net : List ℕ) (entries : UnitsModel) (checked : Ordered) → IsNetFile net entries → entries.edition ≤ checked_edition → IsCheckedOf entries checked → IsNetRead net checked.netlist
net_read net entries checked file taken is = record { entries = entries; file = record { file = file; taken = taken }; is = is.netlist }

pub net_stop : (net : List ℕ) (refusal : NetRefusal) → IsTakenRefusal checked_edition net refusal → IsNetStop net (net_fault refusal)
net_stop net (NoNet at) h = h
net_stop net (BrokenNet fault) h = h
net_stop net NetMemory h = tt

pub src_stop : (src : List ℕ) (width : ℕ) (refusal : SrcRefusal) → IsSrcRefusal src width refusal → IsSrcStop src width (src_fault refusal)
src_stop src width (NoSrc at) h = h
src_stop src width (BrokenSrc fault) h = h
src_stop src width SrcMemory h = tt

pub viewed_stop : (netlist : Netlist) (img : List ℕ) (fault : ParseFault) → IsRemarkedRefusal netlist img fault → IsViewedStop netlist img (image_fault fault)
viewed_stop netlist img (NoImage at) h = h
viewed_stop netlist img ImageMemory h = tt

-- what was read of an image's text says its views and what it hides
pub viewed_read : (netlist : Netlist) (img : List ℕ) (image : Image) (remarks : List RemarkModel) (viewed : Viewed) → IsRemarkedText netlist img image remarks
    → ((i : Image) (r : List RemarkModel) → IsRemarkedText netlist img i r → (image ≡ i) × (remarks ≡ r))
    → views_said netlist.storages remarks ≡ Some (map model_of_view viewed.views) → viewed.image ≡ image → viewed.hidden ≡ hidden_said remarks → IsViewedText netlist img viewed
viewed_read netlist img image remarks viewed text only views same hidden = record {
  remarks = remarks;
  says = record {
    text = subst (λ (i : Image). IsRemarkedText netlist img i remarks) (sym same) text;
    only = λ i r h. (let one = only i r h in (same ∙ one.0, one.1));
  };
  views = views;
  hidden = hidden;
}

-- ---- all three

module _ (net src img : List ℕ) where
  pub net_refused : (fault : CheckFault) → IsNetStop net fault → IsReadStop net src img fault
  net_refused (NetText at) h = h
  net_refused (Net fault) h = h
  net_refused (SrcText at) h = absurd h
  net_refused (Src fault) h = absurd h
  net_refused (ImageText at) h = absurd h
  net_refused (Rule fault) h = absurd h
  net_refused (Follow origin cause) h = absurd h
  net_refused Memory h = tt

  module _ (netlist : Netlist) (read : IsNetRead net netlist) (width : ℕ) (wide : width ≡ memory_width netlist.storages) where
    bits : width ≡ word_bits read.entries
    bits = wide ∙ ap (λ (n : Netlist). memory_width n.storages) read.is

    pub src_refused : (fault : CheckFault) → IsSrcStop src width fault → IsReadStop net src img fault
    src_refused (NetText at) h = absurd h
    src_refused (Net fault) h = absurd h
    src_refused (SrcText at) h = (record { entries = read.entries; file = read.file }, h)
    src_refused (Src fault) h = record { entries = read.entries; net_file = read.file; breaks = subst (λ (n : ℕ). BreaksSrcRule src n fault) bits h }
    src_refused (ImageText at) h = absurd h
    src_refused (Rule fault) h = absurd h
    src_refused (Follow origin cause) h = absurd h
    src_refused Memory h = tt

    module _ (program : ProgramModel) (src_file : IsSrcFile src width program) where
      pub image_refused : (fault : CheckFault) → IsViewedStop netlist img fault → IsReadStop net src img fault
      image_refused (NetText at) h = absurd h
      image_refused (Net fault) h = absurd h
      image_refused (SrcText at) h = absurd h
      image_refused (Src fault) h = absurd h
      image_refused (ImageText at) h = (
        record { entries = read.entries; net_file = read.file; program = program; src_file = subst (λ (n : ℕ). IsSrcFile src n program) bits src_file },
        record { entries = read.entries; net_file = read.file; none = subst (λ (n : Netlist). IsRemarkedFault n img at) read.is h },
      )
      image_refused (Rule fault) h = absurd h
      image_refused (Follow origin cause) h = absurd h
      image_refused Memory h = tt

  pub read_task : (netlist : Netlist) → IsNetRead net netlist → (typed : Typed) → typed.width ≡ memory_width netlist.storages → IsSrcFile src typed.width (model_of_program typed.program)
      → (viewed : Viewed) → IsViewedText netlist img viewed → IsCheckTask net src img (task_of netlist typed viewed)
  read_task netlist read typed wide src_file viewed text = record {
    entries = read.entries;
    net_file = read.file;
    netlist = read.is;
    width = wide ∙ ap (λ (n : Netlist). memory_width n.storages) read.is;
    src_file = src_file;
    image_text = text;
  }

  -- ---- what is answered

  pub read_stop : (fault : CheckFault) → IsReadStop net src img fault → IsCheckStop net src img (nameless fault)
  read_stop (NetText at) h = (refl, h)
  read_stop (Net fault) h = (refl, h)
  read_stop (SrcText at) h = (refl, h.0, h.1)
  read_stop (Src fault) h = (refl, h)
  read_stop (ImageText at) h = (refl, h.0, h.1)
  read_stop (Rule fault) h = absurd h
  read_stop (Follow origin cause) h = absurd h
  read_stop Memory h = tt

  pub task_stop : (task : CheckTask) → IsCheckTask net src img task → (stop : CheckStop) → IsTaskStop task stop → IsCheckStop net src img stop
  task_stop task is stop h = by stop.fault stop.name h
    where
      by : (fault : CheckFault) (name : Option (List ℕ)) → IsTaskTold task fault name → IsCheckFault net src img fault name
      by (NetText at) name x = absurd x
      by (Net fault) name x = absurd x
      by (SrcText at) name x = absurd x
      by (Src fault) name x = absurd x
      by (ImageText at) name x = absurd x
      by (Rule fault) name x = record { task = task; is = is; holds = x }
      by (Follow origin cause) name x = record { task = task; is = is; holds = x }
      by Memory name x = tt

-- ---- of one task

module _ (task : CheckTask) where
  pub broken_stop : (stop : CheckStop) → IsBroken task (Some stop) → IsTaskStop task stop
  broken_stop stop h = by stop.fault stop.name h
    where
      by : (fault : CheckFault) (name : Option (List ℕ)) → IsRuleTold task fault name → IsTaskTold task fault name
      by (NetText at) name x = absurd x
      by (Net fault) name x = absurd x
      by (SrcText at) name x = absurd x
      by (Src fault) name x = absurd x
      by (ImageText at) name x = absurd x
      by (Rule fault) name x = x
      by (Follow origin cause) name x = absurd x
      by Memory name x = absurd x

  pub follow_stop : KeepsImageRules task → (stop : CheckStop) → IsFollowStop stop → IsTaskStop task stop
  follow_stop kept stop h = by stop.fault stop.name h
    where
      by : (fault : CheckFault) (name : Option (List ℕ)) → IsFollowFault fault → IsTaskTold task fault name
      by (NetText at) name x = absurd x
      by (Net fault) name x = absurd x
      by (SrcText at) name x = absurd x
      by (Src fault) name x = absurd x
      by (ImageText at) name x = absurd x
      by (Rule fault) name x = absurd x
      by (Follow origin cause) name x = kept
      by Memory name x = tt
