-- The calls and their refusals. Assumes nothing.
use Rattle.std.specs.Prelude.{ℕ, ◌+◌, ◌-◌, ◌*◌, Bool, false, cond, not, List, [], ◌∷◌, Some, None, Ok, Err, Option, ◌==◌, nat_le, nat_lt, slice_index_or, slice_set}
use Rattle.fault.specs.declared.kinds.Cause.TheVariants.{NoCursor, EmptyCursor, NoField, WrongKind, AbsentLink, NoPage, NoObject, PageClosed, NoRoom, NoType}
use Rattle.fault.specs.declared.kinds.Place.{Place}
use Rattle.fault.specs.Faults.{nowhere, on_page, on_cell, on_field, fault, via}
use Rattle.fault.specs.Refusals.{Checked, ◌>>=◌, ◌>>◌, ◌else◌, ◌otherwise◌}
use Rattle.page.specs.declared.descriptor.Descriptor.{Descriptor}
use Rattle.page.specs.Cells.{put_cell}
use Rattle.page.specs.Descriptors.{declared, linked, type_of}
use Rattle.page.specs.Form.{head_of, field_at, type_at}
pub use Rattle.page.specs.Links.{position, pointed, named}
use Rattle.page.specs.Walks.{cells_of, start_cells}
use Rattle.store.specs.Pages.{is_page}
use Rattle.store.specs.Rules.{open_at, written}
use Rattle.graph.specs.declared.calls.Call.{Call}
use Rattle.graph.specs.declared.calls.Call.TheVariants.{Stand, Follow, Read, Target, Note, Join, Part, Add, Leave, Where, Glance, Slot, Save}
use Rattle.page.specs.declared.link.Position.{Position}
use Rattle.graph.specs.declared.calls.Value.{Value}
use Rattle.graph.specs.declared.calls.Value.TheVariants.{Done, Number, At, Names, Unsettled}
use Rattle.graph.specs.Graphs.{Graph, Setting, opening}

-- a field of an object, and the bytes of its page
pub record Spot : Type 0 where
  pub page : ℕ
  pub cell : ℕ
  pub field : ℕ
  pub bytes : List ℕ

abbrev pub on_spot : Spot → Place
on_spot o = on_field o.page o.cell o.field

-- what the field holds
abbrev pub held : Spot → ℕ
held o = field_at o.bytes o.cell o.field

-- the long pointer of a position
abbrev pub pointer : Position → ℕ
pointer at = 64 * at.page + at.cell

-- cell 0 stands for cell 1
abbrev pub first : ℕ → ℕ
first k = cond (k == 0) 1 k

-- the bytes with an object of type t, of m zero fields, after the last
abbrev pub put_object : ℕ → ℕ → List ℕ → List ℕ
put_object t m bs = put_cell (put_cell bs (head_of bs + 1) t) 0 (head_of bs + 1 + m)

-- an object starts at cell k
abbrev pub starts_at : List Descriptor → List ℕ → ℕ → Bool
starts_at ts bs k = slice_index_or (start_cells ts (cells_of bs)) k false

-- come there by a link
abbrev pub along : {A : Type 0} → Place → Checked A → Checked A
along l (Ok x) = Ok x
along l (Err e) = Err (via l e)

abbrev pub cursor : ℕ → Checked (Unit {0})
cursor c = nat_le c 15 else fault NoCursor 2 nowhere

module _ (s : Setting) (g : Graph) where
  abbrev pub stands_on : ℕ → Checked Position
  stands_on c = slice_index_or g.cursors c None otherwise fault EmptyCursor 2 nowhere

  abbrev pub page : ℕ → Checked (Unit {0})
  page n = is_page g.pages n else fault NoPage 2 (on_page n)

  -- 20 naming the place, unless page n may be written
  abbrev pub writing : ℕ → Place → Checked (Unit {0})
  writing n at = open_at g.pages n else fault PageClosed 2 at

  abbrev pub object : List ℕ → Position → Checked (Unit {0})
  object bs at = starts_at s.types bs at.cell else fault NoObject 2 (on_cell at.page at.cell)

  -- the cursor on the position, or empty
  abbrev pub placed : ℕ → Option Position → Graph
  placed c at = record { pages = g.pages; cursors = slice_set g.cursors c at }

  -- the number in the field
  abbrev pub put : Spot → ℕ → Graph
  put o x = record {
    pages = written g.pages o.page (put_cell o.bytes (o.cell + 1 + o.field) x);
    cursors = g.cursors;
  }

  -- 6, opening, 7, and 8 unless the field is of the kind asked for
  abbrev pub field : (Bool → Bool) → ℕ → ℕ → Checked Spot
  field asked c f = do
    at ← stands_on c
    bs ← opening s g at.page
    nat_lt f (type_at s.types bs at.cell).size else fault NoField 2 (on_field at.page at.cell f)
    asked (linked (type_at s.types bs at.cell) f) else fault WrongKind 2 (on_field at.page at.cell f)
    Ok (record { page = at.page; cell = at.cell; field = f; bytes = bs })

  abbrev pub link_field : ℕ → ℕ → Checked Spot
  link_field c f = field (λ b. b) c f

  abbrev pub number_field : ℕ → ℕ → Checked Spot
  number_field c f = field not c f

  abbrev pub stand : ℕ → ℕ → ℕ → Checked Graph
  stand c n k = do
    cursor c
    page n
    bs ← opening s g n
    object bs (position n (first k))
    Ok (placed c (Some (position n (first k))))

  abbrev pub follow : ℕ → ℕ → ℕ → Checked Graph
  follow c f d = do
    cursor c
    cursor d
    o ← link_field c f
    nat_lt 0 (held o) else fault AbsentLink 2 (on_spot o)
    along (on_spot o) do
      bs ← opening s g (pointed (held o)).page
      object bs (pointed (held o))
      Ok (placed d (Some (pointed (held o))))

  abbrev pub read : ℕ → ℕ → Checked ℕ
  read c f = do
    cursor c
    o ← number_field c f
    Ok (held o)

  abbrev pub target : ℕ → ℕ → Checked (Option Position)
  target c f = do
    cursor c
    o ← link_field c f
    Ok (named (held o))

  abbrev pub note : ℕ → ℕ → ℕ → Checked Graph
  note c f x = do
    cursor c
    o ← number_field c f
    writing o.page (on_spot o)
    Ok (put o x)

  abbrev pub part : ℕ → ℕ → Checked Graph
  part c f = do
    cursor c
    o ← link_field c f
    writing o.page (on_spot o)
    Ok (put o 0)

  abbrev pub join : ℕ → ℕ → ℕ → Checked Graph
  join c f d = do
    cursor c
    cursor d
    stands_on c
    at ← stands_on d
    o ← link_field c f
    writing o.page (on_spot o)
    Ok (put o (pointer at))

  -- the cell of the new object, and the graph with it
  abbrev pub add : ℕ → ℕ → ℕ → Checked (ℕ × Graph)
  add c t n = do
    cursor c
    declared s.types t else fault NoType 2 nowhere
    page n
    bs ← opening s g n
    writing n (on_page n)
    nat_le (1 + (type_of s.types t).size) (63 - head_of bs) else fault NoRoom 2 (on_page n)
    Ok (
      head_of bs + 1,
      record {
        pages = written g.pages n (put_object t (type_of s.types t).size bs);
        cursors = slice_set g.cursors c (Some (position n (head_of bs + 1)));
      },
    )

  abbrev pub leave : ℕ → Checked Graph
  leave c = do
    cursor c
    Ok (placed c None)

  abbrev pub tell_where : ℕ → Checked Position
  tell_where c = do
    cursor c
    stands_on c

  -- a call that answers nothing, and one that changes nothing
  abbrev pub done : Checked Graph → Checked (Value × Graph)
  done r = do
    h ← r
    Ok (Done, h)

  abbrev pub told : {A : Type 0} → (A → Value) → Checked A → Checked (Value × Graph)
  told v r = do
    x ← r
    Ok (v x, g)

  -- what the call answers and the graph after it, where it is granted
  abbrev pub granted : Call → Checked (Value × Graph)
  granted (Stand c n k) = done (stand c n k)
  granted (Follow c f d) = done (follow c f d)
  granted (Read c f) = told (λ x. Number x) (read c f)
  granted (Target c f) = told (λ l. Names l) (target c f)
  granted (Note c f x) = done (note c f x)
  granted (Join c f d) = done (join c f d)
  granted (Part c f) = done (part c f)
  granted (Add c t n) = do
    x ← add c t n
    Ok (Number x.0, x.1)
  granted (Leave c) = done (leave c)
  granted (Where c) = told (λ at. At at) (tell_where c)
  granted (Glance c f) = told (λ l. Names l) (target c f)
  granted (Slot i) = Ok (Unsettled, g)
  granted Save = Ok (Done, g)

-- what a call answers
abbrev pub Answer : Type 0
Answer = Checked Value

-- a refused call leaves the graph as it is
abbrev pub settled : Graph → Checked (Value × Graph) → Answer × Graph
settled g (Ok x) = (Ok x.0, x.1)
settled g (Err e) = (Err e, g)

abbrev pub step : Setting → Graph → Call → Answer × Graph
step s g c = settled g (granted s g c)

abbrev pub answers : Setting → Graph → List Call → List Answer
answers s g [] = []
answers s g (c ∷ cs) = (step s g c).0 ∷ answers s (step s g c).1 cs

abbrev pub final : Setting → Graph → List Call → Graph
final s g [] = g
final s g (c ∷ cs) = final s (step s g c).1 cs
