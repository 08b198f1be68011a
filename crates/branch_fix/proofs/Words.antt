-- The words of parts, one after the other.
use Rattle.std.proofs.Common.{ℕ, zero, suc, ◌≡◌, ◌<◌, ◌+◌, ◌-◌, Bool, true, false, List, [], ◌∷◌, ◌++◌, length, refl, sym, ◌∙◌, ap, arith, append_assoc, Option, slice_index}
use Rattle.std.proofs.lemmas.List.{length-append}
use Rattle.form_model.specs.Forms.{FormModel}
use Rattle.branch_fix.specs.declared.laid.Item.{Item}
use Rattle.branch_fix.specs.declared.laid.Item.TheVariants.{Group}
use Rattle.branch_fix.specs.declared.part.LayoutPart.{LayoutPart}
use Rattle.branch_fix.specs.declared.part.LayoutPart.TheVariants.{Block, Inner, Test, Jump, End}
use Rattle.branch_fix.specs.Parts.{branch_words, room, total}
use Rattle.branch_fix.specs.Items.{groups, behind, part_items, items_from}

groups_more : (block at n N : ℕ) → N ≡ n + 1 → groups block at N ≡ Group block at ∷ groups block (at + 1) n
groups_more block at n zero e = absurd (omega arith)
groups_more block at n (suc N) e = let f : N ≡ n = omega arith in ap (λ k. Group block at ∷ groups block (at + 1) k) f

pub group_pushed : (items new whole : List Item) (block at words : ℕ) → at < words → new ≡ items ++ Group block at ∷ []
    → items ++ groups block at (words - at) ≡ whole → new ++ groups block (at + 1) (words - (at + 1)) ≡ whole
group_pushed items new whole block at words lt e h =
    ap (λ xs. xs ++ groups block (at + 1) (words - (at + 1))) e
    ∙ append_assoc items (Group block at ∷ []) (groups block (at + 1) (words - (at + 1)))
    ∙ ap (λ xs. items ++ xs) (sym (groups_more block at (words - (at + 1)) (words - at) (omega arith))) ∙ h

-- ---- as many as there are words

pub groups_length : (block at n : ℕ) → length (groups block at n) ≡ n
groups_length block at zero = refl
groups_length block at (suc n) = let h = groups_length block (at + 1) n in omega (arith, h)

behind_length : (jump : Option FormModel) (next long : Bool) (to other : ℕ) → length (behind jump next long to other) + 1 ≡ branch_words next long
behind_length jump true true to other = refl
behind_length jump false true to other = refl
behind_length jump true false to other = refl
behind_length jump false false to other = refl

pub part_length : (forms : List FormModel) (jump : Option FormModel) (addresses : List ℕ) (at : ℕ) (p : LayoutPart)
    → length (part_items forms jump addresses at p) ≡ room p
part_length forms jump addresses at (Block block words) = groups_length block 0 words
part_length forms jump addresses at Inner = refl
part_length forms jump addresses at (Test f) =
    let g = groups_length f.block 0 f.words in
    let b = behind_length jump f.next f.long (slice_index addresses f.to) (slice_index addresses f.other) in
    length-append (groups f.block 0 f.words) _ ∙ omega (arith, g, b)
part_length forms jump addresses at (Jump to) = refl
part_length forms jump addresses at End = refl

pub items_length : (forms : List FormModel) (jump : Option FormModel) (addresses : List ℕ) (at : ℕ) (parts : List LayoutPart)
    → length (items_from forms jump addresses at parts) ≡ total parts
items_length forms jump addresses at [] = refl
items_length forms jump addresses at (p ∷ parts) =
    let l = part_length forms jump addresses at p in
    let r = items_length forms jump addresses (at + room p) parts in
    length-append (part_items forms jump addresses at p) (items_from forms jump addresses (at + room p) parts) ∙ omega (arith, l, r)
