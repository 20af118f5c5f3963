-- A page that is still to be placed stands nowhere.
use Rattle.std.proofs.Common.{◌≡◌, ◌≢◌, ℕ, ◌+◌, ◌<◌, Bool, true, false, cond, [], Some, None, refl, sym, ◌∙◌, ap, subst, arith, ⊎_elim}
use Rattle.std.specs.Prelude.{◌==◌, ◌&&◌, if◌then◌else◌, option_map}
use Rattle.std.proofs.lemmas.Bool.{and_parts, cases_eq, eqb-true}
use Rattle.fdp_base.specs.declared.config.DriveConfig.{DriveConfig}
use Rattle.fdp_base.specs.declared.entry.Entry.{Entry}
use Rattle.fdp_base.specs.declared.entry.Entry.TheVariants as entries
use Rattle.fdp_base.specs.declared.entry.Spot.{Spot}
use Rattle.fdp_rules.specs.Change.{after, changed_by, one_more_placed, placed_going, started}
use Rattle.fdp_base.specs.CommandKinds.{is_write}
use Rattle.fdp_rules.specs.History.{Found, first_state, point_of, state_of}
use Rattle.fdp_rules.specs.Next.{next}
use Rattle.fdp_rules.specs.PlainState.{Going, PageName.written}
use Rattle.fdp_rules.specs.Point.{Point}
use Rattle.fdp_rules.specs.Sites.{is_page_of, moved_by, pass_in, traced_by}
use Rattle.fdp_rules.specs.Step.{Follows, IsPlaced}
use Rattle.fdp_history.specs.Orderly.{IsOrderly}
use Rattle.fdp_history.specs.OrderlyState.{IsOrderlyState}
use Rattle.fdp_history.proofs.Effects.{fewer-going}
use Rattle.fdp_history.proofs.Starting.{read-started}
use Rattle.fdp_history.proofs.Trails.{stood-before, was-before}
use Rattle.fdp_pointers.specs.Facts.{HasOnlyPlaced}
use Rattle.fdp_pointers.proofs.Changes.{holds-here, holds-none}

module _ (c : DriveConfig) (p : Point) (ticket index unit page : ℕ) (orderly : IsOrderlyState c p.state) (placed : IsPlaced c p ticket index unit page) (h : HasOnlyPlaced p) where
  abbrev here : Spot
  here = record { unit = unit; page = page }

  -- a page of the write that got one more
  own : (i : ℕ) (spot : Spot) (b : Bool) → (ticket == placed.going.ticket && index == i) ≡ b → (if b then Some here else p.trail.site (written placed.going.ticket i)) ≡ Some spot → i < placed.going.placed + 1
  own i spot true is e = let same : index ≡ i = eqb-true index i (and_parts (ticket == placed.going.ticket) (index == i) is).1 in omega (arith, same, placed.next)
  own i spot false is e = let low : i < placed.going.placed = h placed.queue i placed.going spot placed.going_is e in omega (arith, low)

  -- a page of another write
  foreign : (queue i : ℕ) (g : Going) (spot : Spot) (b : Bool) → g.ticket ≢ ticket → p.state.going queue ≡ Some g → (ticket == g.ticket && index == i) ≡ b → (if b then Some here else p.trail.site (written g.ticket i)) ≡ Some spot → i < g.placed
  foreign queue i g spot true ne going is e = absurd (ne (sym (eqb-true ticket g.ticket (and_parts (ticket == g.ticket) (index == i) is).0)))
  foreign queue i g spot false ne going is e = h queue i g spot going e

  placed-only : (queue i : ℕ) (g : Going) (spot : Spot) → placed_going p.state ticket queue ≡ Some g → (if is_page_of ticket index (written g.ticket i) then Some here else p.trail.site (written g.ticket i)) ≡ Some spot → i < g.placed
  placed-only queue i g spot going site =
      ⊎_elim
      (λ (e : queue ≡ placed.queue).
      let going_here : p.state.going queue ≡ Some placed.going = ap p.state.going e ∙ placed.going_is in
      let more : placed_going p.state ticket queue ≡ Some (one_more_placed placed.going) =
      ap (λ (b : Bool). cond b (option_map one_more_placed (p.state.going queue)) (p.state.going queue)) (holds-here p.state ticket queue placed.going going_here placed.same) ∙ ap (option_map one_more_placed) going_here in
      let both : Some (one_more_placed placed.going) ≡ Some g = sym more ∙ going in
      let is : one_more_placed placed.going ≡ g = cc in
      let moved : (if is_page_of ticket index (written placed.going.ticket i) then Some here else p.trail.site (written placed.going.ticket i)) ≡ Some spot =
      subst (λ (t : ℕ). (if is_page_of ticket index (written t i) then Some here else p.trail.site (written t i)) ≡ Some spot) (sym (ap (λ (x : Going). x.ticket) is)) site in
      subst (λ (x : Going). i < x.placed) is (own i spot (ticket == placed.going.ticket && index == i) refl moved))
      (λ (ne : queue ≢ placed.queue).
      let other : (x : Going) → p.state.going queue ≡ Some x → x.ticket ≢ ticket = λ x e same. ne (orderly.tickets queue placed.queue x placed.going e placed.going_is (same ∙ sym placed.same)) in
      let stays : placed_going p.state ticket queue ≡ p.state.going queue = ap (λ (b : Bool). cond b (option_map one_more_placed (p.state.going queue)) (p.state.going queue)) (holds-none p.state ticket queue other) in
      let there : p.state.going queue ≡ Some g = sym stays ∙ going in
      foreign queue i g spot (ticket == g.ticket && index == i) (other g there) there refl site)
      (cases_eq queue placed.queue)

pub only-placed-next : (told : Bool) (c : DriveConfig) (p : Point) (e : Entry) → IsOrderly c p → Follows told c p e → HasOnlyPlaced p → HasOnlyPlaced (next c p e)
unfolding Follows next after changed_by traced_by
only-placed-next told c p (entries.Host host) orderly step h = λ k i g spot going site. h k i g spot (fewer-going p.state host.queue (is_write host.command) k g going) site
only-placed-next told c p (entries.Started s) orderly step h = λ k i g spot going site.
    ⊎_elim
    (λ here. let is : p.state.position + 1 ≡ g.ticket = ap (λ (x : Going). x.ticket) here.1 in absurd (omega (arith, is, (orderly.sites g.ticket i spot site).ticket_is.1)))
    (λ there. h k i g spot there site)
    (read-started p.state s.queue k (started c p.state s.number s.command s.rg s.ruh s.pid_valid) g going)
only-placed-next told c p (entries.Placed placed) orderly step h = placed-only c p placed.ticket placed.index placed.unit placed.page orderly.state step h
only-placed-next told c p (entries.Copied copied) orderly step h = h
only-placed-next told c p (entries.Moved m) orderly step h = λ k i g spot going site. let was = was-before (moved_by (pass_in p.trail m.rg)) (p.trail.site (written g.ticket i)) spot site in h k i g was.0 going was.1
only-placed-next told c p (entries.Erased e) orderly step h = λ k i g spot going site. h k i g spot going (stood-before e.unit (p.trail.site (written g.ticket i)) spot site)
only-placed-next told c p (entries.Retired r) orderly step h = h
only-placed-next told c p (entries.Aside a) orderly step h = h
only-placed-next told c p (entries.Shut s) orderly step h = h
only-placed-next told c p (entries.Worn w) orderly step h = h
only-placed-next told c p entries.Reopened orderly step h = λ k i g spot going site. absurd (nothing g going) where
  nothing : (g : Going) → None ≡ Some g → ⊥
  nothing g e = cc

-- a run begins with no write going
pub only-placed-first : (c : DriveConfig) (f : Found) → HasOnlyPlaced (point_of c f [])
unfolding point_of state_of first_state
only-placed-first c f = λ k i g spot going site. absurd (nothing g going) where
  nothing : (g : Going) → None ≡ Some g → ⊥
  nothing g e = cc
