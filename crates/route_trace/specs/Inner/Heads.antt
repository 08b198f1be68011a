-- Operators that lack their last operand.
use Rattle.std.specs.Prelude.{◌≡◌, ℕ, ◌+◌, ◌<◌, ◌≤◌, List, [], ◌∷◌, Option, None, Some}
use Rattle.net_model.specs.Exprs.{ExprModel, read, un, bin, cat, zext, sext, select, expr_width}
use Rattle.net_model.specs.Symbolic.{sliced}
use Rattle.sym_expr.specs.declared.pool.Node.{Node}
use Rattle.sym_expr.specs.declared.pool.Node.TheVariants.{Slice as SliceNode}
use Rattle.route_trace.specs.declared.heads.Binary.{Binary}
use Rattle.route_trace.specs.declared.heads.Binary.TheVariants.{Bin as BinaryBin, Cat as BinaryCat, Select as BinarySelect}
use Rattle.route_trace.specs.declared.heads.Head.{Head}
use Rattle.route_trace.specs.declared.heads.Head.TheVariants.{Same, Read, Un, Slice, Zext, Sext, Bin, Cat, Select}

abbrev pub slice_parts : Node → Option (ℕ × ℕ × ℕ)
slice_parts (SliceNode a h l) = Some (a, h, l)
slice_parts _ = None

-- the expression once the last operand is there
abbrev pub head_expr : Head → (ℕ → ExprModel) → ExprModel → ExprModel
head_expr Same t last = last
head_expr (Read space w) t last = read space last w
head_expr (Un o) t last = un o last
head_expr (Slice h l) t last = sliced last h l
head_expr (Zext w) t last = zext last w
head_expr (Sext w) t last = sext last w
head_expr (Bin o a) t last = bin o (t a) last
head_expr (Cat a) t last = cat (t a) last
head_expr (Select c a) t last = select (t c) (t a) last

abbrev pub head_parts : Head → List ℕ
head_parts Same = []
head_parts (Read space w) = []
head_parts (Un o) = []
head_parts (Slice h l) = []
head_parts (Zext w) = []
head_parts (Sext w) = []
head_parts (Bin o a) = a ∷ []
head_parts (Cat a) = a ∷ []
head_parts (Select c a) = c ∷ a ∷ []

-- an operand of this width is what is asked for
abbrev pub LastFits : Head → (ℕ → ExprModel) → ℕ → Type 0
LastFits Same t width = Unit {0}
LastFits (Read space w) t width = (1 ≤ w) × (w ≤ 64)
LastFits (Un o) t width = Unit {0}
LastFits (Slice h l) t width = (l ≤ h) × (h < width)
LastFits (Zext w) t width = (width < w) × (w ≤ 64)
LastFits (Sext w) t width = (width < w) × (w ≤ 64)
LastFits (Bin o a) t width = width ≡ expr_width (t a)
LastFits (Cat a) t width = expr_width (t a) + width ≤ 64
LastFits (Select c a) t width = (expr_width (t c) ≡ 1) × (width ≡ expr_width (t a))

abbrev pub binary_head : Binary → ℕ → Head
binary_head (BinaryBin o) a = Bin o a
binary_head BinaryCat a = Cat a
binary_head (BinarySelect c) a = Select c a

abbrev pub binary_parts : Binary → List ℕ
binary_parts (BinaryBin o) = []
binary_parts BinaryCat = []
binary_parts (BinarySelect c) = c ∷ []

-- the expression once both operands are there
abbrev pub binary_expr : Binary → (ℕ → ExprModel) → ExprModel → ExprModel → ExprModel
binary_expr (BinaryBin o) t a b = bin o a b
binary_expr BinaryCat t a b = cat a b
binary_expr (BinarySelect c) t a b = select (t c) a b
