-- What a page that is placed leaves of owners and pointers.
use Rattle.std.proofs.Common.{◌≡◌, ◌≢◌, ℕ, ◌+◌, ◌≤◌, ◌<◌, Bool, true, false, List, [], Option, Some, None, refl, sym, ◌∙◌, ap, subst, arith, cond, ⊎_elim, eq-eqb, ne_eqb}
use Rattle.std.specs.Prelude.{◌==◌, if◌then◌else◌, nat_lt, option_and_then, option_map}
use Rattle.std.specs.Option.{option_map_or}
use Rattle.std.proofs.lemmas.Bool.{and_right, cases_eq, eqb-true, le-ltb}
use Rattle.fdp_base.specs.declared.command.Write.{Write}
use Rattle.fdp_base.specs.declared.config.DriveConfig.{DriveConfig}
use Rattle.fdp_base.specs.declared.entry.Copied.{Copied}
use Rattle.fdp_base.specs.declared.entry.Entry.{Entry}
use Rattle.fdp_base.specs.declared.entry.Entry.TheVariants as entries
use Rattle.fdp_base.specs.declared.entry.Spot.{Spot}
use Rattle.fdp_base.specs.declared.spare.DataSpare.{DataSpare}
use Rattle.fdp_base.specs.CommandKinds.{write_of}
use Rattle.fdp_base.specs.Numbers.{with_at}
use Rattle.fdp_base.specs.Pattern.{payload_block}
use Rattle.fdp_history.proofs.Placing.{going_with-is}
use Rattle.fdp_history.specs.OrderlyState.{IsOrderlyState}
use Rattle.fdp_history.specs.Standing.{IsStanding}
use Rattle.fdp_locations.specs.Located.{AreAlike, AreLed, AreNamed, handle_at, next_in}
use Rattle.fdp_locations.specs.Written.{IsWritten, Written, next_page, next_spare, page_of_ticket, with_written, written_after}
use Rattle.fdp_locations.proofs.Handled.{handled-pointed, handled-renamed}
use Rattle.fdp_locations.proofs.Grouped.{generation-next, units-pointed, units-same}
use Rattle.fdp_owners.specs.declared.owner.Owner.{Owner}
use Rattle.fdp_owners.specs.Owned.{AreOwners, page_of, with_pointer}
use Rattle.fdp_owners.specs.OwnerTable.{owner_at, pointer_of, with_owner}
use Rattle.fdp_owners.proofs.Owned.{owners-put}
use Rattle.fdp_owners.proofs.Tables.{is_spot-other, is_spot-same}
use Rattle.fdp_pages.specs.PageTables.{PageTables, copies_at, passes_at}
use Rattle.fdp_pointers.specs.Contents.{PageContent, bytes_of_write, content_at, page_of_write, placed_page}
use Rattle.fdp_pointers.specs.Facts.{Carries, IsTableOf, Page, with_next}
use Rattle.fdp_pointers.specs.Pointers.{Behind, Pointer, Pointer.of_block, Pointer.of_flight, pointed}
use Rattle.fdp_pointers.proofs.Carrying.{carries-kept, carries-pointed}
use Rattle.fdp_pointers.proofs.Copies.{own-next, rises, same-spot}
use Rattle.fdp_pointers.proofs.Renaming.{pointed-cases}
use Rattle.fdp_pointers.proofs.Steps.{contents-placed}
use Rattle.fdp_pointers.proofs.Tables.{table-placed, table-raised}
use Rattle.fdp_rules.specs.Change.{after, changed_by, holds_ticket, one_more_placed, placed_going}
use Rattle.fdp_rules.specs.Next.{next}
use Rattle.fdp_rules.specs.PlainState.{Going, PlainState}
use Rattle.fdp_rules.specs.Point.{Point}
use Rattle.fdp_rules.specs.Sites.{group_of, is_spot, is_there}
use Rattle.fdp_rules.specs.Step.{IsPlaced}
use Rattle.fdp_trails.specs.Followed.{IsPassOf}

never : {X : Type 0} {x : X} → None ≡ Some x → ⊥
never e = cc

-- ---- the going writes

holds-here : (s : PlainState) (ticket queue : ℕ) (g : Going) → s.going queue ≡ Some g → g.ticket ≡ ticket → holds_ticket s ticket queue ≡ true
holds-here s ticket queue g e same = ap (λ (o : Option Going). option_map_or (λ (x : Going). x.ticket == ticket) o false) e ∙ eq-eqb g.ticket ticket same

holds-none : (s : PlainState) (ticket queue : ℕ) → ((g : Going) → s.going queue ≡ Some g → g.ticket ≢ ticket) → holds_ticket s ticket queue ≡ false
holds-none s ticket queue other =
    (elim (s.going queue) as (λ o. s.going queue ≡ o → option_map_or (λ (x : Going). x.ticket == ticket) o false ≡ false) [ None ↦ (λ e. refl) | Some g ↦ (λ e. ne_eqb g.ticket ticket (other g e)) ]) refl

going-more : (c : DriveConfig) (s : PlainState) (queue : ℕ) (g : Going) → IsOrderlyState c s → s.going queue ≡ Some g → (q : ℕ) → placed_going s g.ticket q ≡ with_at s.going queue (Some (one_more_placed g)) q
going-more c s queue g h e q =
    ⊎_elim
    (λ (same : q ≡ queue).
    let there : s.going q ≡ Some g = ap s.going same ∙ e in
    ap (λ (b : Bool). cond b (option_map one_more_placed (s.going q)) (s.going q)) (holds-here s g.ticket q g there refl)
    ∙ ap (option_map one_more_placed) there
    ∙ sym (ap (λ (b : Bool). cond b (Some (one_more_placed g)) (s.going q)) (eq-eqb q queue same)))
    (λ (ne : q ≢ queue).
    ap (λ (b : Bool). cond b (option_map one_more_placed (s.going q)) (s.going q)) (holds-none s g.ticket q (λ x is same. ne (h.tickets q queue x g is e same)))
    ∙ sym (ap (λ (b : Bool). cond b (Some (one_more_placed g)) (s.going q)) (ne_eqb q queue ne)))
    (cases_eq q queue)

-- the going writes after a page of one of them is placed
pub going-placed : (c : DriveConfig) (p : Point) (ticket index unit page : ℕ) → IsOrderlyState c p.state → (placed : IsPlaced c p ticket index unit page) → (q : ℕ) → (next c p (entries.Placed (record { ticket = ticket; index = index; unit = unit; page = page }))).state.going q ≡ with_at p.state.going placed.queue (Some (one_more_placed placed.going)) q
unfolding next after changed_by
going-placed c p ticket index unit page h placed q = ap (λ (t : ℕ). placed_going p.state t q) (sym placed.same) ∙ going-more c p.state placed.queue placed.going h placed.going_is q

-- ---- the owner of a page that is placed

-- a page more of a write, as a pointer more
pointed-is : (at : Behind Page) (queue index : ℕ) (y : Page) (p : Pointer) → with_pointer at (of_flight queue index) (Some y) p ≡ pointed at queue index y p
pointed-is at queue index y (of_block n lba) = refl
pointed-is at queue index y (of_flight q i) = refl

-- the next page of a unit has no owner, and the next block of a write no page
no-owner : (owners : Spot → Option Owner) (at : Behind Page) (next : ℕ → ℕ) (spot : Spot) → AreOwners owners at → ((p : Pointer) (y : Page) → at p ≡ Some y → y.spot.page < next y.spot.unit) → spot.page ≡ next spot.unit → owners spot ≡ None
no-owner owners at next spot h below fresh =
    (elim (owners spot) as (λ (o : Option Owner). owners spot ≡ o → o ≡ None) [
      | None ↦ λ e. refl
      | Some x ↦ λ e. let low : spot.page < next spot.unit = below (pointer_of x) (page_of spot x) (h.led spot x e) in absurd (omega (arith, low, fresh))
    ]) refl

content-none : (c : DriveConfig) (s : PlainState) (queue index : ℕ) (g : Going) → s.going queue ≡ Some g → g.placed ≤ index → content_at c s (of_flight queue index) ≡ None
content-none c s queue index g going high =
    ap (option_and_then (placed_page c s index)) going
    ∙ ap (λ (b : Bool). if b then Some (page_of_write c g index) else None) (and_right (is_there s g) (nat_lt index g.placed) (le-ltb index g.placed high))

no-page : (o : Option PageContent) (a : Option Page) (site : PageContent → Option Spot) → o ≡ None → option_map site o ≡ option_map (λ (y : Page). Some y.spot) a → a ≡ None
no-page None None site none e = refl
no-page None (Some y) site none e = absurd cc
no-page (Some x) a site none e = absurd cc

-- ---- what it holds

page-written : (c : DriveConfig) (s : PlainState) (queue ticket : ℕ) (g : Going) (w : Write) → IsOrderlyState c s → 1 ≤ queue → queue ≤ c.queues → s.going queue ≡ Some g → g.ticket ≡ ticket → write_of g.command ≡ Some w → page_of_ticket c s ticket ≡ Some (next_page c s g w)
page-written c s queue ticket g w orderly low high going same write =
    ap (option_and_then (λ (x : Going). option_map (next_page c s x) (write_of x.command))) (going_with-is c s queue ticket g orderly low high going same)
    ∙ ap (option_map (next_page c s g)) write

bytes-is : (c : DriveConfig) (g : Going) (w : Write) (index : ℕ) → write_of g.command ≡ Some w → index ≡ g.placed → bytes_of_write c g.command index ≡ payload_block c.block w.payload g.placed
bytes-is c g w index write is = ap (λ (o : Option Write). option_map_or (λ (x : Write). payload_block c.block x.payload index) o []) write ∙ ap (payload_block c.block w.payload) is

-- a page other than the one that is put holds what it held
written-other : (written : Spot → Option Written) (spot at : Spot) (x : Option Written) → at ≢ spot → with_written written spot x at ≡ written at
written-other written spot at x ne = ap (λ (b : Bool). if b then x else written at) (is_spot-other at spot ne)

pub written-same : (written : Spot → Option Written) (spot : Spot) (x : Option Written) → with_written written spot x spot ≡ x
written-same written spot x = ap (λ (b : Bool). if b then x else written spot) (is_spot-same spot)

-- each page that holds something lies below the next page of its unit, one more of which is used
pub written-below : (pages : ℕ → ℕ) (written : Spot → Option Written) (spot : Spot) (x : Option Written) → spot.page ≡ pages spot.unit → ((at : Spot) (y : Written) → written at ≡ Some y → at.page < pages at.unit) → (at : Spot) (y : Written) → with_written written spot x at ≡ Some y → at.page < with_next pages spot at.unit
written-below pages written spot x fresh below at y e =
    (elim (is_spot at spot) as (λ b. is_spot at spot ≡ b → (if b then x else written at) ≡ Some y → at.page < with_next pages spot at.unit) [
      | true ↦ λ same is. let place : at ≡ spot = same-spot at spot same in subst (λ (z : Spot). z.page < with_next pages spot z.unit) (sym place) (own-next pages spot)
      | false ↦ λ same is. let low : at.page < pages at.unit = below at y is in omega (arith, low, rises pages spot fresh at.unit)
    ]) refl e

-- what a page holds that lies below is what it held
pub written-kept : (pages : ℕ → ℕ) (written : Spot → Option Written) (spot at : Spot) (x : Option Written) → spot.page ≡ pages spot.unit → at.page < pages at.unit → with_written written spot x at ≡ written at
written-kept pages written spot at x fresh low = written-other written spot at x (λ same. let below : spot.page < pages spot.unit = subst (λ (z : Spot). z.page < pages z.unit) same low in omega (arith, below, fresh))

-- copies hold what their old pages hold, after a page more was written
pub alike-written : (pages : ℕ → ℕ) (written : Spot → Option Written) (spot : Spot) (x : Option Written) (copies : List Copied) → spot.page ≡ pages spot.unit → ((at : Spot) (y : Written) → written at ≡ Some y → at.page < pages at.unit) → AreAlike written copies → AreAlike (with_written written spot x) copies
alike-written pages written spot x copies fresh below h copy among =
    let a = h copy among in
    record {
      page = a.page;
      old = written-kept pages written spot copy.from x fresh (below copy.from a.page a.old) ∙ a.old;
      new = written-kept pages written spot copy.to x fresh (below copy.to a.page a.new) ∙ a.new;
    }

-- ---- a page is placed

-- the new page of a write: the next of its unit, with the spare of the write's next page, in the hands of the write
pub record IsNewPage (c : DriveConfig) (p : Point) (t now : PageTables) (queue : ℕ) (g : Going) (w : Write) (spot : Spot) (x : Owner) : Type 0 where
  pub write : write_of g.command ≡ Some w
  pub fresh : spot.page ≡ next_in t.units spot.unit
  pub spare : x.spare ≡ next_spare p.state g w
  pub points : pointer_of x ≡ of_flight queue g.placed
  pub owners : owner_at now.owners ≡ with_owner (owner_at t.owners) spot (Some x)
  pub next : (unit : ℕ) → next_in now.units unit ≡ with_next (next_in t.units) spot unit

named-placed : (c : DriveConfig) (p : Point) (ticket index unit page : ℕ) (at : Behind Page) (y : Page) (w : Write) → IsOrderlyState c p.state → (placed : IsPlaced c p ticket index unit page) → write_of placed.going.command ≡ Some w → y.spare ≡ next_spare p.state placed.going w → AreNamed p.state at →
    AreNamed (next c p (entries.Placed (record { ticket = ticket; index = index; unit = unit; page = page }))).state (pointed at placed.queue placed.going.placed y)
named-placed c p ticket index unit page at y w orderly placed write spare h queue i g v z going is_write there =
    let q : PlainState = (next c p (entries.Placed (record { ticket = ticket; index = index; unit = unit; page = page }))).state in
    let now : with_at p.state.going placed.queue (Some (one_more_placed placed.going)) queue ≡ Some g = sym (going-placed c p ticket index unit page orderly placed queue) ∙ going in
    ⊎_elim
    (λ both.
    let where_is : of_flight queue i ≡ of_flight placed.queue placed.going.placed = both.0 in
    let queue_is : queue ≡ placed.queue = cc in
    let index_is : i ≡ placed.going.placed = cc in
    let page_is : Some y ≡ Some z = sym both.1 ∙ there in
    let one : y ≡ z = cc in
    let mine : Some (one_more_placed placed.going) ≡ Some g = sym (ap (λ (b : Bool). if b then Some (one_more_placed placed.going) else p.state.going queue) (eq-eqb queue placed.queue queue_is)) ∙ now in
    let same : one_more_placed placed.going ≡ g = cc in
    let command : Some w ≡ Some v = sym write ∙ ap (λ (x : Going). write_of x.command) same ∙ is_write in
    let v_is : w ≡ v = cc in
    let spare_is : z.spare ≡ next_spare p.state placed.going w = ap (λ (x : Page). x.spare) (sym one) ∙ spare in (
      ap (λ (x : DataSpare). x.nsid) spare_is ∙ ap (λ (x : Write). x.nsid) v_is,
      ap (λ (x : DataSpare). x.lba) spare_is ∙ ap (λ (x : Write). x.slba + placed.going.placed) v_is ∙ ap (λ (n : ℕ). v.slba + n) (sym index_is),
    ))
    (λ other. before (queue == placed.queue) refl (sym other ∙ there) now)
    (pointed-cases at placed.queue placed.going.placed y (of_flight queue i))
  where
    before : (b : Bool) → (queue == placed.queue) ≡ b → at (of_flight queue i) ≡ Some z → (if b then Some (one_more_placed placed.going) else p.state.going queue) ≡ Some g → (z.spare.nsid ≡ v.nsid) × (z.spare.lba ≡ v.slba + i)
    before true same is now =
        let queue_is : queue ≡ placed.queue = eqb-true queue placed.queue same in
        let one : one_more_placed placed.going ≡ g = cc in
        h queue i placed.going v z (ap p.state.going queue_is ∙ placed.going_is) (ap (λ (x : Going). write_of x.command) one ∙ is_write) is
    before false same is now = h queue i g v z now is_write is

pub led-placed : (c : DriveConfig) (p : Point) (ticket index : ℕ) (spot : Spot) (written : Spot → Option Written) (at : Behind Page) (t now : PageTables) (w : Write) (x : Owner) →
    IsOrderlyState c p.state → IsStanding c p → (placed : IsPlaced c p ticket index spot.unit spot.page) → IsNewPage c p t now placed.queue placed.going w spot x →
    ((rg : ℕ) → rg < c.groups → IsPassOf (pointed at placed.queue placed.going.placed (page_of spot x)) (next c p (entries.Placed (record { ticket = ticket; index = index; unit = spot.unit; page = spot.page }))).trail rg (passes_at now rg)) →
    ((rg : ℕ) → copies_at now rg ≡ copies_at t rg) →
    AreLed c p written at t →
    AreLed c (next c p (entries.Placed (record { ticket = ticket; index = index; unit = spot.unit; page = spot.page }))) (written_after c p.state written (entries.Placed (record { ticket = ticket; index = index; unit = spot.unit; page = spot.page }))) (pointed at placed.queue placed.going.placed (page_of spot x)) now
led-placed c p ticket index spot written at t now w x orderly standing placed new passes copies h =
    let e : Entry = entries.Placed (record { ticket = ticket; index = index; unit = spot.unit; page = spot.page }) in
    let q : Point = next c p e in
    let g : Going = placed.going in
    let y : Page = page_of spot x in
    let queue : ℕ = placed.queue in
    let content : Option Written = page_of_ticket c p.state ticket in
    let content_is : content ≡ Some (next_page c p.state g w) = page-written c p.state queue ticket g w orderly placed.queue_is.0 placed.queue_is.1 placed.going_is placed.same new.write in
    let empty : at (of_flight queue g.placed) ≡ None =
    no-page (content_at c p.state (of_flight queue g.placed)) (at (of_flight queue g.placed)) (λ (k : PageContent). p.trail.site k.name) (content-none c p.state queue g.placed g placed.going_is (omega arith)) (h.table.follows (of_flight queue g.placed)) in
    let put = owners-put (owner_at t.owners) at spot x h.owned (no-owner (owner_at t.owners) at (next_in t.units) spot h.owned h.table.below new.fresh) (ap at new.points ∙ empty) in
    let table = table-placed c p ticket index y (next_in t.units) at orderly standing placed new.fresh h.table in
    record {
      table = table-raised c q (with_next (next_in t.units) spot) (next_in now.units) (pointed at queue g.placed y) (λ unit. omega (arith, new.next unit)) (subst (λ (n : ℕ). IsTableOf c q (with_next (next_in t.units) spot) (pointed at queue n y)) placed.next table);
      owned = subst (λ (o : Spot → Option Owner). AreOwners o (pointed at queue g.placed y)) (sym new.owners)
          (subst (λ (a : Behind Page). AreOwners (with_owner (owner_at t.owners) spot (Some x)) a) (λ d r. pointed-is at queue g.placed y r d)
          (subst (λ (r : Pointer). AreOwners (with_owner (owner_at t.owners) spot (Some x)) (with_pointer at r (Some y))) new.points put));
      named = named-placed c p ticket index spot.unit spot.page at y w orderly placed new.write new.spare h.named;
      handled =
          let own : handle_at q.state (of_flight queue g.placed) ≡ Some y.spare.ruh =
          ap (option_map (λ (k : Going). k.ruh)) (going-placed c p ticket index spot.unit spot.page orderly placed queue ∙ ap (λ (b : Bool). if b then Some (one_more_placed g) else p.state.going queue) (eq-eqb queue queue refl))
          ∙ ap (λ (s : DataSpare). Some s.ruh) (sym new.spare) in
          handled-pointed q.state at queue g.placed y own (handled-renamed c p e at h.handled);
      units =
          let same : q.state.generation ≡ p.state.generation = generation-next c p e refl in
          let names : y.spare.rg ≡ group_of c spot.unit = ap (λ (s : DataSpare). s.rg) new.spare ∙ sym placed.group in
          units-pointed c q.state.generation at queue g.placed y (ap (λ (s : DataSpare). s.generation) new.spare ∙ sym same, names) (units-same c p.state.generation q.state.generation at same h.units);
      holds =
          let more : content_at c q.state ≡ pointed (content_at c p.state) queue g.placed (page_of_write c g index) = contents-placed c p ticket index spot.unit spot.page orderly placed ∙ ap (λ (n : ℕ). pointed (content_at c p.state) queue n (page_of_write c g index)) placed.next in
          let kept : Carries (IsWritten (with_written written spot content)) (content_at c p.state) at =
          carries-kept (IsWritten written) (IsWritten (with_written written spot content)) (content_at c p.state) at
          (λ r z k there is says. written-kept (next_in t.units) written spot z.spot content new.fresh (h.table.below r z there) ∙ says) h.holds in
          let says : with_written written spot content spot ≡ Some (record { spare = x.spare; bytes = bytes_of_write c g.command index }) =
          written-same written spot content ∙ content_is
          ∙ ap (λ (s : DataSpare). Some (record { spare = s; bytes = payload_block c.block w.payload g.placed })) (sym new.spare)
          ∙ ap (λ (b : List ℕ). Some (record { spare = x.spare; bytes = b })) (sym (bytes-is c g w index new.write placed.next)) in
          subst (λ (k : Behind PageContent). Carries (IsWritten (with_written written spot content)) k (pointed at queue g.placed y)) (sym more)
          (carries-pointed (IsWritten (with_written written spot content)) (content_at c p.state) at queue g.placed (page_of_write c g index) y says kept);
      below = λ z k is. let low : z.page < with_next (next_in t.units) spot z.unit = written-below (next_in t.units) written spot content new.fresh h.below z k is in omega (arith, low, new.next z.unit);
      passes = passes;
      copies = λ rg group. subst (λ (xs : List Copied). AreAlike (with_written written spot content) xs) (sym (copies rg)) (alike-written (next_in t.units) written spot content (copies_at t rg) new.fresh h.below (h.copies rg group));
    }
