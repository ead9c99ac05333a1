-- What each item of a module adds to the flat design. Generate constructs are unrolled by the values of their constants.
--     Act                               what an item adds, where its names have a prefix
--     scoped prefix body p              a block as a scope
--     blocked b prefix p                a block with its name, if it has one
--     once .., turns_from n ..          a turn of a loop, and turns, of which n are left
--     item_act lib i, items_act lib prefix is p      an item, and items
use Rattle.std.specs.Prelude.{ℕ, zero, suc, ◌+◌, nat_le, Bool, true, false, if◌then◌else◌, List, ◌∷◌, map, Option, Some, None, Ok, Err, slice_get}
use Rattle.std.specs.Str.{bytes_eq}
use Rattle.rdc_outside.specs.declared.source.Place.{Place}
use Rattle.vlog_tree.specs.declared.ident.Ident.{Ident}
use Rattle.vlog_tree.specs.declared.expr.Expr.{Expr}
use Rattle.vlog_tree.specs.declared.stmt.Arm.{Arm}
use Rattle.vlog_tree.specs.declared.stmt.Loop.{Loop}
use Rattle.vlog_tree.specs.declared.item.Block.{Block}
use Rattle.vlog_tree.specs.declared.item.Item.{Item, para-Item}
use Rattle.vlog_tree.specs.declared.item.Item.TheOpen.{Item-F}
use Rattle.vlog_const.specs.declared.answer.ConstValue.{ConstValue}
use Rattle.vlog_const.specs.Words.{low}
use Rattle.elab_names.specs.declared.fault.ElabFault.TheVariants.{GenerateLimit}
use Rattle.elab_names.specs.declared.meaning.Meaning.TheVariants.{Constant}
use Rattle.elab_names.specs.Answers.{Or_fault, ◌>>=◌}
use Rattle.elab_names.specs.Meanings.{Frames, no_names, with_name, left}
use Rattle.elab_names.specs.Expressions.{constant_within}
use Rattle.elab_scopes.specs.Threads.{threaded, chained}
use Rattle.elab_drivers.specs.Drivers.{wired, assigns, processed, gated}
use Rattle.elab_items.specs.Plans.{Plan, frames_in, on_draft, with_frames, with_turn}
use Rattle.elab_items.specs.Scopes.{begun, ended, genvar, labelled, labelled_as, block_prefix, turn_prefix}
use Rattle.elab_choices.specs.Choices.{is_true, chosen}
use Rattle.elab_items.specs.Instances.{Lib, instanced}

-- what an item adds, where its names have a prefix
abbrev pub Act : Type 0
Act = List ℕ → Plan → Or_fault Plan

-- items, each beside what it adds
abbrev pub Body : Type 0
Body = List (Item × Act)

abbrev pub items_of : Body → List Item
items_of body = map (λ x. x.0) body

abbrev pub acts_of : List ℕ → Body → List (Plan → Or_fault Plan)
acts_of prefix body = map (λ x. x.1 prefix) body

-- a block as a scope
unfoldable pub scoped : List ℕ → Body → Plan → Or_fault Plan
scoped prefix body p = do
  b ← begun prefix (items_of body) p
  e ← chained (acts_of prefix body) b
  Ok (ended e)

-- a block with its name, if it has one
unfoldable pub blocked : Block Body → List ℕ → Plan → Or_fault Plan
blocked b prefix p = do
  q ← labelled p b.name
  scoped (block_prefix prefix b.name) b.items q

unfoldable pub blocked_if : Option (Block Body) → List ℕ → Plan → Or_fault Plan
blocked_if None prefix p = Ok p
blocked_if (Some b) prefix p = blocked b prefix p

unfoldable pub arm_at : Option (Arm (Block Body)) → List ℕ → Plan → Or_fault Plan
arm_at None prefix p = Ok p
arm_at (Some a) prefix p = blocked a.body prefix p

unfoldable pub arm_chosen : Option ℕ → List (Arm (Block Body)) → List ℕ → Plan → Or_fault Plan
arm_chosen None arms prefix p = Ok p
arm_chosen (Some k) arms prefix p = arm_at (slice_get arms k) prefix p

-- the value of a genvar, as by an assignment to 32 bits
abbrev pub counted : ConstValue → ConstValue
counted v = record { bits = low 32 v.bits; width = 32; signed = true }

unfoldable pub count_in : Frames → Expr → Or_fault ConstValue
count_in frames e = do
  v ← constant_within frames 32 e
  Ok (counted v)

-- the names with a genvar's value
abbrev pub running : Plan → Ident → ConstValue → Plan
running p i v = with_frames p (with_name no_names i.name (Constant v) ∷ frames_in p)

-- the value for the next turn; a step that assigns another genvar leaves it
unfoldable pub stepped : Frames → Loop → ConstValue → Or_fault ConstValue
stepped frames h v = if bytes_eq h.stepped.name h.variable.name then count_in frames h.step else Ok v

abbrev pub most_turns : ℕ
most_turns = 65536

-- one turn, unless it is one too many
unfoldable pub turned : Place → List ℕ → Loop → Ident → Body → ConstValue → Plan → Or_fault Plan
turned place prefix h label body v q =
    if nat_le most_turns (q.turns + 1) then Err (GenerateLimit place) else scoped (turn_prefix prefix label.name v) body (with_turn q)

-- out of a turn's names
abbrev pub stopped : Plan → Plan
stopped p = with_frames p (left (frames_in p))

-- what a turn leaves: the value for the next one, unless the test was false
pub record Turn : Type 0 where
  pub next : Option ConstValue
  pub plan : Plan

unfoldable pub taken_on : Place → List ℕ → Loop → Ident → Body → ConstValue → Plan → Bool → Or_fault Turn
taken_on place prefix h label body v q false = Ok (record { next = None; plan = stopped q })
taken_on place prefix h label body v q true = do
  r ← turned place prefix h label body v q
  w ← stepped (frames_in r) h v
  Ok (record { next = Some w; plan = stopped r })

-- a test and, where it is true, a turn
unfoldable pub once : Place → List ℕ → Loop → Ident → Body → ConstValue → Plan → Or_fault Turn
once place prefix h label body v p = do
  goes ← is_true (frames_in (running p h.variable v)) h.test
  taken_on place prefix h label body v (running p h.variable v) goes

-- what follows a turn
unfoldable pub follows : (ConstValue → Plan → Or_fault Plan) → Plan → Option ConstValue → Or_fault Plan
follows more p None = Ok p
follows more p (Some v) = more v p

abbrev pub followed : (ConstValue → Plan → Or_fault Plan) → Turn → Or_fault Plan
followed more t = follows more t.plan t.next

-- the turns of a loop, of which n are left
unfoldable pub turns_from : ℕ → Place → List ℕ → Loop → Ident → Body → ConstValue → Plan → Or_fault Plan
turns_from zero place prefix h label body v p = Err (GenerateLimit place)
turns_from (suc n) place prefix h label body v p = once place prefix h label body v p >>= followed (turns_from n place prefix h label body)

-- a loop
unfoldable pub looped : Place → Loop → Ident → Body → List ℕ → Plan → Or_fault Plan
looped place h label body prefix p = do
  u ← genvar p.around h.variable
  w ← genvar p.around h.stepped
  q ← labelled_as p label
  v ← count_in (frames_in q) h.start
  turns_from most_turns place prefix h label body v q

unfoldable pub act_by_parts : Lib → Item-F (Item × Act) → Act
act_by_parts lib (Item-F.Wires place s nets) prefix p = on_draft (λ d. threaded wired d nets) p
act_by_parts lib (Item-F.Assign place xs) prefix p = on_draft (λ d. threaded assigns d xs) p
act_by_parts lib (Item-F.Always place c s) prefix p = on_draft (processed place c s) p
act_by_parts lib (Item-F.Gates place which gates) prefix p = on_draft (λ d. threaded (gated which) d gates) p
act_by_parts lib (Item-F.Instances place called passed is) prefix p = threaded (instanced lib prefix called passed) p is
act_by_parts lib (Item-F.Generate place items) prefix p = chained (acts_of prefix items) p
act_by_parts lib (Item-F.For place h label items) prefix p = looped place h label items prefix p
act_by_parts lib (Item-F.If place test a b) prefix p = is_true (frames_in p) test >>= (λ yes. if yes then blocked a prefix p else blocked_if b prefix p)
act_by_parts lib (Item-F.Case place selector arms) prefix p = chosen (frames_in p) selector (map (λ a. a.labels) arms) >>= (λ k. arm_chosen k arms prefix p)
act_by_parts lib _ prefix p = Ok p

-- what an item adds
unfoldable pub item_act : Lib → Item → Act
item_act lib = para-Item Act (act_by_parts lib)

-- items, a block and an arm, with what each item adds
abbrev pub bodied : Lib → List Item → Body
bodied lib is = map (λ i. (i, item_act lib i)) is

abbrev pub block_of : Lib → Block (List Item) → Block Body
block_of lib b = record { name = b.name; items = bodied lib b.items }

abbrev pub arm_of : Lib → Arm (Block (List Item)) → Arm (Block Body)
arm_of lib a = record { place = a.place; labels = a.labels; body = block_of lib a.body }

-- what items add
abbrev pub items_act : Lib → List ℕ → Plan → List Item → Or_fault Plan
items_act lib prefix p is = threaded (λ q i. item_act lib i prefix q) p is
