-- A page that is placed for a going write.
use Rattle.std.proofs.Common.{◌≡◌, ◌⊎◌, inl, inr, ℕ, ◌+◌, ◌<◌, ◌≤◌, Bool, true, false, cond, Option, Some, None, refl, sym, ◌∙◌, ap, subst, arith, ⊎_elim, eq-eqb}
use Rattle.std.specs.Prelude.{◌==◌, MatchOption, option_and_then, option_map}
use Rattle.std.specs.Option.{option_map_or}
use Rattle.std.proofs.lemmas.Bool.{eqb-true}
use Rattle.fdp_base.specs.declared.config.DriveConfig.{DriveConfig}
use Rattle.fdp_base.specs.declared.entry.Entry.TheVariants as entries
use Rattle.fdp_rules.specs.Change.{after, changed_by, going_with, holds_ticket, one_less, one_more_placed, placed_going, placed_references}
use Rattle.fdp_base.specs.Config.{IsValidConfig}
use Rattle.fdp_rules.specs.Effect.{with_reference}
use Rattle.fdp_rules.specs.PlainState.{Going, PlainState, Reference}
use Rattle.fdp_rules.specs.Point.{Point}
use Rattle.fdp_rules.specs.Step.{IsNextPage, IsPlaced, IsUnreferenced}
use Rattle.fdp_history.specs.OrderlyState.{IsOrderlyGoing, IsOrderlyState}
use Rattle.fdp_history.proofs.Parts.{going-changed, later, orderly-later}
use Rattle.fdp_history.proofs.References.{AreOrderlyReferences, one_less-orderly, one_less-unit, own-references, references-changed, with_reference-orderly}
use Rattle.fdp_history.proofs.Tables.{find-some, find-within}
use Rattle.fdp_base.specs.CommandKinds.{blocks_written}

-- a queue that holds a ticket has a write with it
pub holder : (s : PlainState) (ticket queue : ℕ) → holds_ticket s ticket queue ≡ true → (g : Going) × (s.going queue ≡ Some g) × (g.ticket ≡ ticket)
holder s ticket queue e =
    let P : Option Going → Type 0 = λ o. option_map_or (λ (g : Going). g.ticket == ticket) o false ≡ true → (g : Going) × (o ≡ Some g) × (g.ticket ≡ ticket) in
    (elim (s.going queue) as P [ None ↦ λ no. absurd cc | Some g ↦ λ yes. (g, refl, eqb-true g.ticket ticket yes) ]) e

holds : (s : PlainState) (ticket queue : ℕ) (g : Going) → s.going queue ≡ Some g → g.ticket ≡ ticket → holds_ticket s ticket queue ≡ true
holds s ticket queue g e same = ap (λ (o : Option Going). option_map_or (λ (x : Going). x.ticket == ticket) o false) e ∙ eq-eqb g.ticket ticket same

-- the write with a ticket is the one that is going in its queue
pub going_with-is : (c : DriveConfig) (s : PlainState) (queue ticket : ℕ) (g : Going) → IsOrderlyState c s → 1 ≤ queue → queue ≤ c.queues → s.going queue ≡ Some g → g.ticket ≡ ticket → going_with c s ticket ≡ Some g
going_with-is c s queue ticket g h low high e same =
    let found = find-some (holds_ticket s ticket) 1 c.queues queue low (omega (arith, high)) (holds s ticket queue g e same) in
    let other = holder s ticket found.0 (find-within (holds_ticket s ticket) 1 c.queues found.0 found.1).2 in
    let one : found.0 ≡ queue = h.tickets found.0 queue other.0 g other.1 e (other.2 ∙ sym same) in
    ap (option_and_then s.going) found.1 ∙ ap s.going one ∙ e

-- ---- the going writes

-- a write after a page was placed: with one page more where it has the ticket
pub read-placed : (s : PlainState) (ticket queue : ℕ) (g : Going) → placed_going s ticket queue ≡ Some g → (x : Going) × (s.going queue ≡ Some x) × (((x.ticket ≡ ticket) × (g ≡ one_more_placed x)) ⊎ (g ≡ x))
read-placed s ticket queue g e =
    let P : Bool → Type 0 = λ b. holds_ticket s ticket queue ≡ b → cond b (option_map one_more_placed (s.going queue)) (s.going queue) ≡ Some g → (x : Going) × (s.going queue ≡ Some x) × (((x.ticket ≡ ticket) × (g ≡ one_more_placed x)) ⊎ (g ≡ x)) in
    elim (holds_ticket s ticket queue) as P [
      | true ↦ λ t more.
          let h = holder s ticket queue t in
          let is : Some (one_more_placed h.0) ≡ Some g = ap (option_map one_more_placed) (sym h.1) ∙ more in
          (h.0, h.1, inl (h.2, cc))
      | false ↦ λ t same. (g, same, inr refl)
    ] refl e

one-more : (c : DriveConfig) (s : PlainState) (queue : ℕ) (g : Going) → g.placed < blocks_written g.command → IsOrderlyGoing c s queue g → IsOrderlyGoing c s queue (one_more_placed g)
one-more c s queue g room h = record {
  queue_is = h.queue_is;
  write = h.write;
  formed = h.formed;
  count = h.count;
  handle = h.handle;
  group = h.group;
  roomiest = h.roomiest;
  ticket = h.ticket;
  birth = h.birth;
  placed = omega (arith, room);
  in_force = h.in_force;
  range = h.range;
}

placed-going : (c : DriveConfig) (p : Point) (ticket index unit page : ℕ) → IsPlaced c p ticket index unit page → (t : PlainState) → t.going ≡ p.state.going → IsOrderlyState c t → IsOrderlyState c p.state → IsOrderlyState c (record t { going = placed_going p.state ticket })
placed-going c p ticket index unit page placed t same now h =
    let s : PlainState = p.state in
    let was : (queue : ℕ) (x : Going) → s.going queue ≡ Some x → IsOrderlyGoing c t queue x = λ queue x e. now.writes queue x (ap (λ (f : ℕ → Option Going). f queue) same ∙ e) in
    let kept : (queue : ℕ) (g x : Going) → ((x.ticket ≡ ticket) × (g ≡ one_more_placed x)) ⊎ (g ≡ x) → g.ticket ≡ x.ticket = λ queue g x which. ⊎_elim (λ more. ap (λ (y : Going). y.ticket) more.1) (λ e. ap (λ (y : Going). y.ticket) e) which in
    going-changed c t (placed_going s ticket)
    (λ queue g e.
    let r = read-placed s ticket queue g e in
    ⊎_elim
    (λ more.
    let here : queue ≡ placed.queue = h.tickets queue placed.queue r.0 placed.going r.1 placed.going_is (more.0 ∙ sym placed.same) in
    let both : Some r.0 ≡ Some placed.going = sym r.1 ∙ ap s.going here ∙ placed.going_is in
    let is : r.0 ≡ placed.going = cc in
    let room : placed.going.placed < blocks_written placed.going.command = omega (arith, placed.next, placed.asked) in
    subst (IsOrderlyGoing c t queue) (sym more.1) (one-more c t queue r.0 (subst (λ (x : Going). x.placed < blocks_written x.command) (sym is) room) (was queue r.0 r.1)))
    (λ e. subst (IsOrderlyGoing c t queue) (sym e) (was queue r.0 r.1))
    r.2)
    (λ a b g k e f tickets.
    let r = read-placed s ticket a g e in
    let q = read-placed s ticket b k f in
    h.tickets a b r.0 q.0 r.1 q.1 (sym (kept a g r.0 r.2) ∙ tickets ∙ kept b k q.0 q.2))
    now

-- ---- the references

placed-alone : (c : DriveConfig) (s : PlainState) (rg ruh unit page : ℕ) → IsNextPage c s (s.references rg ruh) unit page → IsOrderlyState c s → (u i k : ℕ) → u ≡ unit → (s.references i k).unit ≡ Some u → (i ≡ rg) × (k ≡ ruh)
placed-alone c s rg ruh unit page place h u i k same e =
    let there : (s.references i k).unit ≡ Some unit = e ∙ ap (λ (n : ℕ). Some n) same in
    let P : Option ℕ → Type 0 = λ o. (s.references rg ruh).unit ≡ o → MatchOption o (IsUnreferenced s unit × (page ≡ 0)) (λ (v : ℕ). (unit ≡ v) × (page + (s.references rg ruh).left ≡ c.unit_pages)) → (i ≡ rg) × (k ≡ ruh) in
    elim (s.references rg ruh).unit as P [
      | None ↦ λ none first. absurd (first.0 i k there)
      | Some v ↦ λ some next. h.units i k rg ruh unit there (some ∙ ap (λ (n : ℕ). Some n) (sym next.0))
    ] refl place

placed-references : (c : DriveConfig) (p : Point) (ticket index unit page : ℕ) → IsValidConfig c → IsPlaced c p ticket index unit page → IsOrderlyState c p.state → AreOrderlyReferences c (later p.state) (placed_references c p.state.references unit (going_with c p.state ticket))
placed-references c p ticket index unit page valid placed h =
    let s : PlainState = p.state in
    let g : Going = placed.going in
    let now = orderly-later c s h in
    let is : going_with c s ticket ≡ Some g = going_with-is c s placed.queue ticket g h placed.queue_is.0 placed.queue_is.1 placed.going_is placed.same in
    let x : Reference = s.references g.rg g.ruh in
    let good : AreOrderlyReferences c (later s) (with_reference s.references g.rg g.ruh (one_less c unit x)) =
    with_reference-orderly s.references g.rg g.ruh (one_less c unit x) c (later s)
    (one_less-orderly c (later s) g.rg unit x valid placed.spot.0 placed.group placed.kept (now.references g.rg g.ruh))
    (λ u i k e f. placed-alone c s g.rg g.ruh unit page placed.place h u i k (one_less-unit c unit u x e) f)
    (own-references c (later s) now) in
    subst (λ (o : Option Going). AreOrderlyReferences c (later s) (placed_references c s.references unit o)) (sym is) good

pub placed-orderly : (c : DriveConfig) (p : Point) (ticket index unit page : ℕ) → IsValidConfig c → IsPlaced c p ticket index unit page → IsOrderlyState c p.state → IsOrderlyState c (after c p.state (entries.Placed (record { ticket = ticket; index = index; unit = unit; page = page })))
unfolding after changed_by
placed-orderly c p ticket index unit page valid placed h =
    let first = references-changed c (later p.state) _ (placed-references c p ticket index unit page valid placed h) (orderly-later c p.state h) in
    placed-going c p ticket index unit page placed _ refl first h
