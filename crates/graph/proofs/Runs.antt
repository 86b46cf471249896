-- The edits of runs. Assumes nothing.
use Rattle.std.proofs.Common.{◌≡◌, ℕ, zero, suc, ◌+◌, ◌-◌, Bool, false, not, eqb, ltb, leb, List, [], ◌∷◌, ◌++◌, map, get_or, set, Some, None, Ok, Err, Option, sym, refl, ap, ◌∙◌, get_or-set_other}
use Rattle.std.proofs.lemmas.Bool.{eqb-false, or_parts}
use Rattle.fault.specs.declared.kinds.Cause.TheVariants.{AbsentLink, NoRoom, NoType}
use Rattle.fault.specs.Faults.{nowhere, on_page, fault}
use Rattle.fault.specs.Refusals.{Checked, ◌else◌}
use Rattle.page.specs.Descriptors.{declared, type_of}
use Rattle.page.specs.Form.{head_of}
use Rattle.store.specs.Pages.{bytes, Page, no_page, page_at}
use Rattle.store.specs.Rules.{written}
use Rattle.graph.specs.declared.calls.Call.{Call}
use Rattle.graph.specs.declared.calls.Call.TheVariants.{Stand, Follow, Read, Target, Note, Join, Part, Add, Leave, Where, Glance, Slot, Save}
use Rattle.page.specs.declared.link.Position.{Position}
use Rattle.graph.specs.declared.calls.Value.{Value}
use Rattle.graph.specs.declared.calls.Value.TheVariants.{Done, Number}
use Rattle.graph.specs.Edits.{Edit, put_all, changed_bytes, changed_page, changed, made, touched, at_place, field_edit, asked, when_granted, edits_of}
use Rattle.graph.specs.Graphs.{Graph, Setting, opening}
use Rattle.graph.specs.Laws.{EditedInOrder, OthersKept, WritingKept}
use Rattle.graph.specs.Steps.{Spot, on_spot, held, first, pointer, pointed, position, put, cursor, page, writing, object, stands_on, link_field, stand, follow, read, target, note, part, join, leave, tell_where, done, granted, settled, step}
use Rattle.graph.proofs.Grants.{Grants, given, denied, after, with, bound, came}
use Rattle.graph.proofs.Opens.{opens, stands, SpotOf, spot}

-- writing a readable page anew is changing it
pub written_changed : (ps : List Page) (n : ℕ) (bs : List ℕ) (xs : List (ℕ × ℕ)) → (page_at ps n).content ≡ bytes bs → written ps n (put_all xs bs) ≡ changed n xs ps
written_changed ps zero bs xs h = refl
written_changed ps (suc i) bs xs h = sym (ap (λ k. set ps i (record { content = changed_bytes xs k; writable = (get_or ps i no_page).writable })) h)

module _ (s : Setting) (g : Graph) where
  -- the pages afterwards are those with the edit made that the call asks for
  abbrev Made : Call → Value × Graph → Type 0
  Made c x = x.1.pages ≡ made (asked s.types g.cursors c x.0) g.pages

  abbrev MadeBy : Call → Graph → Type 0
  MadeBy c h = h.pages ≡ made (asked s.types g.cursors c Done) g.pages

  done_made : (c : Call) (r : Checked Graph) → Grants (MadeBy c) r → Grants (Made c) (done s g r)
  done_made c r h = with (MadeBy c) h λ x q. given q

  -- the position is where the cursor stands
  at_place_lem : (w : Option Position) (at : Position) (E : Position → List Edit) → w ≡ Some at → made (E at) g.pages ≡ made (at_place w E) g.pages
  at_place_lem w at E e = sym (ap (λ v. made (at_place v E) g.pages) e)

  put_made : (asked : Bool → Bool) (c f x : ℕ) (o : Spot) → SpotOf s g asked c f o → (put s g o x).pages ≡ made (field_edit (position o.page o.cell) f x) g.pages
  put_made asked c f x o h =
      written_changed g.pages o.page o.bytes ((o.cell + 1 + o.field, x) ∷ []) h.lawful.reads
      ∙ ap (λ i. made (field_edit (position o.page o.cell) i x) g.pages) h.same

  all_made : (c : Call) → Grants (Made c) (granted s g c)
  all_made (Stand c n k) = done_made (Stand c n k) (stand s g c n k) (after (cursor c) (after (page s g n) (bound (opening s g n) λ bs. after (object s g bs (position n (first k))) (given refl))))
  all_made (Follow c f d) =
      done_made (Follow c f d) (follow s g c f d) (after (cursor c) (after (cursor d) (bound (link_field s g c f) λ o. after (ltb 0 (held o) else fault AbsentLink 2 (on_spot o)) (came (on_spot o)
      (bound (opening s g (pointed (held o)).page) λ bs. after (object s g bs (pointed (held o))) (given refl))))))
  all_made (Read c f) = bound (read s g c f) λ x. given refl
  all_made (Target c f) = bound (target s g c f) λ x. given refl
  all_made (Note c f x) =
      done_made (Note c f x) (note s g c f x) (after (cursor c) (with _ (spot s g not c f) λ o h. after (writing s g o.page (on_spot o))
      (given (put_made not c f x o h ∙ at_place_lem _ (position o.page o.cell) (λ at. field_edit at f x) h.stood))))
  all_made (Join c f d) =
      done_made (Join c f d) (join s g c f d) (after (cursor c) (after (cursor d) (after (stands_on s g c) (with _ (stands s g d) λ to e. with _ (spot s g (λ b. b) c f) λ o h. after (writing s g o.page (on_spot o))
      (given (put_made (λ b. b) c f (pointer to) o h ∙ at_place_lem _ to (λ to. field_edit (position o.page o.cell) f (pointer to)) e
      ∙ at_place_lem _ (position o.page o.cell) (λ at. at_place (get_or g.cursors d None) (λ to. field_edit at f (pointer to))) h.stood))))))
  all_made (Part c f) =
      done_made (Part c f) (part s g c f) (after (cursor c) (with _ (spot s g (λ b. b) c f) λ o h. after (writing s g o.page (on_spot o))
      (given (put_made (λ b. b) c f 0 o h ∙ at_place_lem _ (position o.page o.cell) (λ at. field_edit at f 0) h.stood))))
  all_made (Add c t n) =
      with (λ x. Made (Add c t n) (Number x.0, x.1)) (after (cursor c) (after (declared s.types t else fault NoType 2 nowhere) (after (page s g n) (with _ (opens s g n) λ bs l. after (writing s g n (on_page n)) (after (leb (1 + (type_of s.types t).size) (63 - head_of bs) else fault NoRoom 2 (on_page n))
      (given (written_changed g.pages n bs ((head_of bs + 1, t) ∷ (0, head_of bs + 1 + (type_of s.types t).size) ∷ []) l.reads))))))) λ x q. given q
  all_made (Leave c) = done_made (Leave c) (leave s g c) (after (cursor c) (given refl))
  all_made (Where c) = bound (tell_where s g c) λ x. given refl
  all_made (Glance c f) = bound (target s g c f) λ x. given refl
  all_made (Slot i) = given refl
  all_made Save = given refl

  step_made : (c : Call) → (step s g c).1.pages ≡ made (when_granted (step s g c).0 (asked s.types g.cursors c)) g.pages
  step_made c = go (granted s g c) (all_made c)
    where
      go : (r : Checked (Value × Graph)) → Grants (Made c) r → (settled g r).1.pages ≡ made (when_granted (settled g r).0 (asked s.types g.cursors c)) g.pages
      go (Ok x) (given h) = h
      go (Err e) denied = refl

made_append : (es fs : List Edit) (ps : List Page) → made (es ++ fs) ps ≡ made fs (made es ps)
made_append [] fs ps = refl
made_append (e ∷ es) fs ps = made_append es fs (changed e.page e.puts ps)

pub in_order : EditedInOrder
in_order s g [] = refl
in_order s g (c ∷ cs) =
    let es = when_granted (step s g c).0 (asked s.types g.cursors c) in
    let fs = edits_of s (step s g c).1 cs in
    in_order s (step s g c).1 cs ∙ ap (made fs) (step_made s g c) ∙ sym (made_append es fs g.pages)

writable_set : (xs : List (ℕ × ℕ)) (ps : List Page) (i : ℕ) → map (λ (p : Page). p.writable) (set ps i (changed_page xs (get_or ps i no_page))) ≡ map (λ (p : Page). p.writable) ps
writable_set xs [] i = refl
writable_set xs (p ∷ ps) zero = refl
writable_set xs (p ∷ ps) (suc i) = ap (λ l. p.writable ∷ l) (writable_set xs ps i)

writable_changed : (n : ℕ) (xs : List (ℕ × ℕ)) (ps : List Page) → map (λ (p : Page). p.writable) (changed n xs ps) ≡ map (λ (p : Page). p.writable) ps
writable_changed zero xs ps = refl
writable_changed (suc i) xs ps = writable_set xs ps i

writable_made : (es : List Edit) (ps : List Page) → map (λ (p : Page). p.writable) (made es ps) ≡ map (λ (p : Page). p.writable) ps
writable_made [] ps = refl
writable_made (e ∷ es) ps = writable_made es (changed e.page e.puts ps) ∙ writable_changed e.page e.puts ps

pub writing_kept : WritingKept
writing_kept s g cs = ap (map (λ (p : Page). p.writable)) (in_order s g cs) ∙ writable_made (edits_of s g cs) g.pages

pub other_changed : (n m : ℕ) (xs : List (ℕ × ℕ)) (ps : List Page) → eqb n m ≡ false → page_at (changed m xs ps) n ≡ page_at ps n
other_changed n zero xs ps h = refl
other_changed zero (suc j) xs ps h = refl
other_changed (suc i) (suc j) xs ps h = get_or-set_other ps j i _ no_page (λ e. eqb-false (suc i) (suc j) h (ap suc e))

other_made : (es : List Edit) (n : ℕ) (ps : List Page) → touched es n ≡ false → page_at (made es ps) n ≡ page_at ps n
other_made [] n ps h = refl
other_made (e ∷ es) n ps h =
    let hh = or_parts (eqb n e.page) (touched es n) h in
    other_made es n (changed e.page e.puts ps) hh.1 ∙ other_changed n e.page e.puts ps hh.0

pub others_kept : OthersKept
others_kept s g cs n h = ap (λ ps. page_at ps n) (in_order s g cs) ∙ other_made (edits_of s g cs) n g.pages h
