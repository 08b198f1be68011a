-- The image of a program whose jobs have their plans.
use Rattle.std.proofs.Common.{◌≡◌, ℕ, ◌≤◌, List, length, sym, subst, ◌∙◌, arith}
use Rattle.std.proofs.lemmas.List.{length-map}
use Rattle.net_model.specs.ModeRules.{base_at}
use Rattle.net_model.specs.Nets.{word_width}
use Rattle.code_model.specs.declared.image.Image.{Image}
use Rattle.code_model.specs.declared.image.Word.{Word}
use Rattle.code_model.specs.Places.{words_of}
use Rattle.form_model.specs.Live.{regs_of}
use Rattle.form_model.specs.Forms.{FormModel}
use Rattle.form_set.specs.Listing.{greatest_reach}
use Rattle.mode_set.specs.Costs.{PlanModel}
use Rattle.mode_set.specs.Keeping.{IsModeRegister, Isas}
use Rattle.branch_fix.specs.declared.outline.Branch.{Branch}
use Rattle.branch_fix.specs.declared.laid.Laid.{Laid}
use Rattle.branch_fix.specs.Bounds.{program_bound}
use Rattle.branch_fix.specs.Laid.{IsLaid, OutlineModel}
use Rattle.branch_fix.specs.Marked.{AreMarked}
use Rattle.right_code.specs.Covered.{ArePlans, numbered, plan_costs}
use Rattle.right_code.specs.Images.{IsLaidAt, IsMadeFor}
use Rattle.right_code.specs.Tasks.{Task, task_jobs}
use Rattle.right_code.specs.Words.{ListItems, StandItems}
use Rattle.compaction.specs.declared.packer.PackedBlock.{PackedBlock}
use Rattle.code_gen.specs.Inner.Coded.{AreItemWords, IsBlockCode, groups_at, words_at}
use Rattle.code_gen.specs.Inner.Views.{mode_bits}
use Rattle.code_gen.proofs.Making.{blocks_made, tests_made, words_long, words_list, sizes, words_stand}

-- what is laid out for a task with these blocks
abbrev pub task_outline : Task → List FormModel → List ℕ → List Branch → ℕ → ℕ → OutlineModel
task_outline task forms sizes branches words bound =
    record { flow = task.flow; sizes = sizes; branches = branches; forms = forms; reach = greatest_reach forms; words = words; bound = bound }

module _ (task : Task) (isas : Isas task.netlist) (register : IsModeRegister task.netlist.special (base_at task.netlist 0)) (plans : List PlanModel) (planned : ArePlans task isas plans) where
  module _ (blocks : List PackedBlock) (branches : List Branch)
      (code : IsBlockCode task isas task.flow (task_jobs task) plans (length task.flow) blocks branches)
      (laid : Laid) (most bound : ℕ) (is : IsLaid (task_outline task (isas 0).keeping (sizes blocks) branches most bound) laid)
      (bound_is : bound ≡ program_bound task.program (plan_costs (task_jobs task) plans))
      (image : Image) (items : AreItemWords (base_at task.netlist 0) (isas 0).patterns (regs_of (mode_bits task.netlist.special)) blocks laid.items image.words) where
    long : length (words_of image) ≡ length laid.items
    long = length-map image.words (λ (w : Word). w.word) ∙ words_long (base_at task.netlist 0) (isas 0).patterns (regs_of (mode_bits task.netlist.special)) blocks laid.items image.words items

    pub image_made : image.marks ≡ laid.marks → image.costs ≡ numbered 0 (plan_costs (task_jobs task) plans) → image.bits ≡ word_width task.netlist
        → IsLaidAt task image → (made : IsMadeFor task image) × (length (words_of image) ≤ greatest_reach (made.isas 0).keeping)
    image_made marks costs bits laid_at =
        let whole = is.long in
        let most_words = is.most in
        let reaches = is.reached in
        let le : length (words_of image) ≤ greatest_reach (isas 0).keeping = omega (arith, long, whole, most_words, reaches) in (
          record {
            isas = isas;
            bits = bits;
            layout = laid_at;
            plans = plans;
            planned = planned;
            costs = costs;
            sizes = sizes blocks;
            branches = branches;
            parts = is.parts;
            settled = is.settled;
            groups = groups_at blocks;
            words = words_at blocks;
            blocks = blocks_made task isas task.flow (task_jobs task) plans blocks branches code is.parts is.settled;
            tests = tests_made task isas task.flow (task_jobs task) plans blocks branches code is.parts is.settled;
            stand = subst (StandItems (base_at task.netlist 0) task.netlist.special (isas 0).patterns (words_at blocks) (words_of image) 0) is.items
                (words_stand (base_at task.netlist 0) (isas 0).patterns task.netlist.special register blocks laid.items image.words items);
            long = long ∙ is.long;
            marks = marks ∙ is.marks;
            marked = subst (λ ms. AreMarked task.flow (length (words_of image)) ms) (sym marks) (subst (λ n. AreMarked task.flow n laid.marks) (sym long) is.marked);
            most = omega (arith, long, is.most, bound_is);
            lists = subst (λ xs. ListItems (groups_at blocks) xs image.words) is.items (words_list (base_at task.netlist 0) (isas 0).patterns (regs_of (mode_bits task.netlist.special)) blocks laid.items image.words items);
          },
          le,
        )
