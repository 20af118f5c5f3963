-- What an entry that leaves nothing keeps of a reading.
use Rattle.std.proofs.Common.{◌≡◌, ◌≢◌, ℕ, zero, suc, ◌+◌, ◌≤◌, ◌<◌, Bool, true, false, List, [], ◌∷◌, ◌++◌, length, Option, Some, None, refl, sym, ◌∙◌, ap, subst, arith, ne_eqb, ⊎_elim}
use Rattle.std.specs.Prelude.{◌==◌, ◌&&◌, IfSome, IsFalse, IsTrue, filter, flat_map, if◌then◌else◌, map, not, option_and_then, option_map, find}
use Rattle.std.specs.Option.{option_map_or}
use Rattle.std.proofs.lemmas.Bool.{cases_eq, eqb-true}
use Rattle.std.proofs.lemmas.List.{append-nil}
use Rattle.fdp_base.specs.declared.config.DriveConfig.{DriveConfig}
use Rattle.fdp_base.specs.declared.entry.BlockName.{BlockName}
use Rattle.fdp_base.specs.declared.entry.Entry.{Entry}
use Rattle.fdp_base.specs.declared.entry.Entry.TheVariants as entries
use Rattle.fdp_base.specs.declared.entry.Spot.{Spot}
use Rattle.fdp_base.specs.declared.entry.Totals.{Totals}
use Rattle.fdp_base.specs.declared.event.Event.{Event}
use Rattle.fdp_base.specs.Numbers.{numbers_below, numbers_from}
use Rattle.fdp_base.specs.Placement.{geometry_of}
use Rattle.fdp_flash.specs.declared.cell.Cell.{Cell}
use Rattle.fdp_flash.specs.Layout.{page_number}
use Rattle.fdp_history.specs.Orderly.{IsOrderly}
use Rattle.fdp_history.specs.Standing.{IsStanding}
use Rattle.fdp_image.specs.Outline.{state_with}
use Rattle.fdp_image.specs.Reading.{Reading}
use Rattle.fdp_image.specs.StandsFor.{Shows}
use Rattle.fdp_image.specs.Valid.{IsValid, state_in}
use Rattle.fdp_owners.proofs.Tables.{is_spot-same}
use Rattle.fdp_pointers.specs.Contents.{leaves_pages}
use Rattle.fdp_pointers.proofs.Copies.{same-spot}
use Rattle.fdp_pointers.proofs.Rows.{flat-none}
use Rattle.fdp_readings.specs.Drawn.{drawn, page_of_block}
use Rattle.fdp_readings.specs.Lasting.{leaves_nothing}
use Rattle.fdp_readings.proofs.Drawing.{space-there}
use Rattle.fdp_rules.specs.Applied.{KeepsData, is_applied}
use Rattle.fdp_rules.specs.Events.{command_events, events_of_entry, is_host_event, is_of_handle, kept_of_entry, latest, reallocated}
use Rattle.fdp_rules.specs.History.{Found, controller_events_of, events_of, host_events_of, point_of, state_of, totals_of}
use Rattle.fdp_rules.specs.Next.{next}
use Rattle.fdp_rules.specs.PlainState.{Block, PageName, PageName.found, PageName.written, PlainState, content_of, lasting}
use Rattle.fdp_rules.specs.Point.{Copy, Point, Trail}
use Rattle.fdp_rules.specs.Room.{handles_in_force, namespace_ids, size_of}
use Rattle.fdp_rules.specs.Sites.{blocks_at, blocks_in, is_page_of, is_spot, moved_by, outside, pass_in, site_of, stands_at, traced_by}
use Rattle.fdp_rules.specs.Step.{Follows, IsErasable, IsMoved, IsPlaced, IsStep}
use Rattle.fdp_rules.proofs.LastWrites.{keeps_data, not-completed}
use Rattle.fdp_rules.proofs.Pushes.{events_of-push, point_of-push, state_of-push}
use Rattle.fdp_base.proofs.Entries.{by-host}

-- ---- the state

not-applied : (e : Entry) → leaves_nothing e ≡ true → IsFalse (is_applied e)
not-applied e is = by-host (λ x. leaves_nothing x ≡ true → IsFalse (is_applied x)) (λ h quiet. unmade h.reply.applied quiet) (λ x none quiet. not-completed x none) e is where
  unmade : (b : Bool) → not b ≡ true → b ≡ false
  unmade true e = absurd cc
  unmade false e = refl

-- ---- the events

no-blocks : (blocks : List BlockName) → (length blocks == 0) ≡ true → blocks ≡ []
no-blocks [] e = refl
no-blocks (b ∷ bs) e = let zero : length (b ∷ bs) ≡ 0 = eqb-true (length (b ∷ bs)) 0 e in absurd (omega (arith, zero))

no-event : (c : DriveConfig) (s : PlainState) (e : Entry) → leaves_nothing e ≡ true → events_of_entry c s e ≡ []
unfolding events_of_entry
no-event c s (entries.Host h) is = ap (λ (b : Bool). if b then command_events c s h.queue h.command else []) (not-applied (entries.Host h) is)
no-event c s (entries.Started x) is = refl
no-event c s (entries.Placed p) is = refl
no-event c s (entries.Copied x) is = refl
no-event c s (entries.Moved m) is =
    ap (λ (blocks : List BlockName). flat_map (λ ruh. reallocated s m.rg ruh (filter (is_of_handle s ruh) blocks)) (numbers_below (handles_in_force c s))) (no-blocks m.blocks is)
    ∙ flat-none (λ ruh. []) 0 (handles_in_force c s) (λ n low. refl)
no-event c s (entries.Erased x) is = refl
no-event c s (entries.Retired r) is = refl
no-event c s (entries.Aside a) is = refl
no-event c s (entries.Shut x) is = absurd cc
no-event c s (entries.Worn w) is = refl
no-event c s entries.Reopened is = absurd cc

none-kept : (c : DriveConfig) (s : PlainState) (e : Entry) → leaves_nothing e ≡ true → kept_of_entry c s e ≡ []
unfolding kept_of_entry
none-kept c s e is = ap (filter (λ (x : Event). s.reports x.ruh x.kind)) (no-event c s e is)

events-still : (c : DriveConfig) (f : Found) (es : List Entry) (e : Entry) → leaves_nothing e ≡ true → events_of c f (es ++ e ∷ []) ≡ events_of c f es
events-still c f es e is = events_of-push c f es e ∙ ap (λ (xs : List Event). events_of c f es ++ xs) (none-kept c (state_of c f es) e is) ∙ append-nil (events_of c f es)

host-still : (c : DriveConfig) (f : Found) (es : List Entry) (e : Entry) → leaves_nothing e ≡ true → host_events_of c f (es ++ e ∷ []) ≡ host_events_of c f es
unfolding host_events_of
host-still c f es e is = ap (λ (xs : List Event). latest (f.host_events ++ filter is_host_event xs)) (events-still c f es e is)

controller-still : (c : DriveConfig) (f : Found) (es : List Entry) (e : Entry) → leaves_nothing e ≡ true → controller_events_of c f (es ++ e ∷ []) ≡ controller_events_of c f es
unfolding controller_events_of
controller-still c f es e is = ap (λ (xs : List Event). latest (f.controller_events ++ filter (λ x. not (is_host_event x)) xs)) (events-still c f es e is)

-- ---- what is shown

-- the data of the state stays
data-still : (c : DriveConfig) (f : Found) (es : List Entry) (e : Entry) → leaves_nothing e ≡ true → KeepsData (state_of c f es) (state_of c f (es ++ e ∷ []))
data-still c f es e is = subst (KeepsData (state_of c f es)) (sym (state_of-push c f es e)) (keeps_data c (state_of c f es) e (not-applied e is))

lasting-same : (s now : PlainState) → KeepsData s now → lasting now ≡ lasting s
lasting-same s now h = λ i. record {
  enabled = h.enabled i;
  index = h.index i;
  generation = h.generation i;
  reports = h.reports i;
  namespaces = h.namespaces i;
  blocks = λ nsid lba. option_map content_of (h.blocks i nsid lba);
}

pub shows-still : (c : DriveConfig) (f : Found) (es : List Entry) (e : Entry) (cells : List Cell) (r : Reading) → IsTrue (leaves_nothing e) → Shows c f cells es r → Shows c f cells (es ++ e ∷ []) r
shows-still c f es e cells r is h = record {
  lasting_part = h.lasting_part ∙ sym (lasting-same (state_of c f es) (state_of c f (es ++ e ∷ [])) (data-still c f es e is));
  host_events = h.host_events ∙ sym (host-still c f es e is);
  controller_events = h.controller_events ∙ sym (controller-still c f es e is);
}

-- ---- where blocks stand

-- the page of a block is none that is placed next
placed-other : (ticket index : ℕ) (name : PageName) → ((t i : ℕ) → name ≡ written t i → t ≢ ticket) → is_page_of ticket index name ≡ false
placed-other ticket index (found spot) h = refl
placed-other ticket index (written t i) h = ap (λ (b : Bool). b && (index == i)) (ne_eqb ticket t (λ same. h t i refl (sym same)))

-- lists of which nothing comes
both-none : {X : Type 0} (xs ys : List X) → xs ++ ys ≡ [] → (xs ≡ []) × (ys ≡ [])
both-none [] ys e = (refl, e)
both-none (x ∷ xs) ys e = absurd cc

none-from : {X : Type 0} (f : ℕ → List X) (first count n : ℕ) → first ≤ n → n < first + count → flat_map f (numbers_from first count) ≡ [] → f n ≡ []
unfolding numbers_from
none-from f first zero n low high e = absurd (omega (arith, low, high))
none-from f first (suc count) n low high e =
    let both = both-none (f first) (flat_map f (numbers_from (first + 1) count)) e in
    ⊎_elim
    (λ (same : n ≡ first). ap f same ∙ both.0)
    (λ ne. none-from f (first + 1) count n (omega (arith, low, ne)) (omega (arith, high)) both.1)
    (cases_eq n first)

passes-none : (test : ℕ → Bool) (first : ℕ) (rest : List ℕ) (b : Bool) → (if b then first ∷ rest else rest) ≡ [] → (b ≡ false) × (rest ≡ [])
passes-none test first rest true e = absurd cc
passes-none test first rest false e = (refl, e)

none-passes : (test : ℕ → Bool) (first count n : ℕ) → first ≤ n → n < first + count → filter test (numbers_from first count) ≡ [] → test n ≡ false
unfolding numbers_from
none-passes test first zero n low high e = absurd (omega (arith, low, high))
none-passes test first (suc count) n low high e =
    let both = passes-none test first (filter test (numbers_from (first + 1) count)) (test first) e in
    ⊎_elim
    (λ (same : n ≡ first). ap test same ∙ both.0)
    (λ ne. none-passes test (first + 1) count n (omega (arith, low, ne)) (omega (arith, high)) both.1)
    (cases_eq n first)

none-mapped : {X Y : Type 0} (f : X → Y) (xs : List X) → map f xs ≡ [] → xs ≡ []
none-mapped f [] e = refl
none-mapped f (x ∷ xs) e = absurd cc

-- a page where a block stands is not one of a pass that moves no block
no-block-at : (p : Point) (nsid lba : ℕ) (spot : Spot) → site_of p nsid lba ≡ Some spot → lba < size_of p.state nsid → 1 ≤ nsid → nsid ≤ 16 → blocks_at p spot ≡ [] → ⊥
unfolding namespace_ids
no-block-at p nsid lba spot site low one sixteen none =
    let mine = none-from (blocks_in p spot) 1 16 nsid one (omega (arith, sixteen)) none in
    let kept = none-mapped (λ (l : ℕ). record { nsid = nsid; lba = l }) (filter (λ l. stands_at (site_of p nsid l) spot) (numbers_below (size_of p.state nsid))) mine in
    let test : stands_at (site_of p nsid lba) spot ≡ false = none-passes (λ l. stands_at (site_of p nsid l) spot) 0 (size_of p.state nsid) lba (omega arith) (omega (arith, low)) kept in
    let stands : stands_at (site_of p nsid lba) spot ≡ true = ap (λ (o : Option Spot). stands_at o spot) site ∙ is_spot-same spot in
    let never : true ≡ false = sym stands ∙ test in
    cc

unmoved : (p : Point) (spot : Spot) → (blocks_at p spot ≡ [] → ⊥) → (pass : List Copy) → flat_map (λ (x : Copy). blocks_at p x.from) pass ≡ [] → moved_by pass spot ≡ spot
unmoved p spot some [] none = refl
unmoved p spot some (x ∷ xs) none =
    let both = both-none (blocks_at p x.from) (flat_map (λ (z : Copy). blocks_at p z.from) xs) none in
    (elim (is_spot x.from spot) as (λ b. is_spot x.from spot ≡ b → option_map_or (λ (z : Copy). z.to) (if b then Some x else find (λ (z : Copy). is_spot z.from spot) xs) spot ≡ spot) [
      | true ↦ λ same. absurd (some (ap (blocks_at p) (sym (same-spot x.from spot same)) ∙ both.0))
      | false ↦ λ other. unmoved p spot some xs both.1
    ]) refl

-- what an entry leaves of the site of a block's page
site-still : (told : Bool) (c : DriveConfig) (p : Point) (e : Entry) (nsid lba : ℕ) (b : Block) → leaves_nothing e ≡ true → IsOrderly c p → IsStanding c p → (IsFalse (leaves_pages e) → Follows told c p e) → p.state.blocks nsid lba ≡ Some b
    → (traced_by c p.trail e).site b.page ≡ p.trail.site b.page
unfolding traced_by Follows
site-still told c p (entries.Host h) nsid lba b is orderly standing follows there = refl
site-still told c p (entries.Started s) nsid lba b is orderly standing follows there = refl
site-still told c p (entries.Placed x) nsid lba b is orderly standing follows there =
    let placed : IsPlaced c p x.ticket x.index x.unit x.page = follows refl in
    ap (λ (t : Bool). if t then Some (record { unit = x.unit; page = x.page }) else p.trail.site b.page)
    (placed-other x.ticket x.index b.page (λ t i named same. (standing.blocks nsid lba b there).ended t i placed.queue placed.going named placed.going_is (placed.same ∙ sym same)))
site-still told c p (entries.Copied x) nsid lba b is orderly standing follows there = refl
site-still told c p (entries.Moved m) nsid lba b is orderly standing follows there =
    let moved : IsMoved c p m.rg m.blocks = follows refl in
    let stands = standing.blocks nsid lba b there in
    let site : site_of p nsid lba ≡ Some stands.spot = ap (option_and_then (λ (x : Block). p.trail.site x.page)) there ∙ stands.site in
    let low = (orderly.state.blocks nsid lba b there).address in
    let space = orderly.state.namespaces nsid (space-there p.state nsid lba low).0 (space-there p.state nsid lba low).1 in
    ap (option_map (moved_by (pass_in p.trail m.rg))) stands.site
    ∙ ap (λ (x : Spot). Some x) (unmoved p stands.spot (no-block-at p nsid lba stands.spot site low space.identifier.0 space.identifier.1) (pass_in p.trail m.rg) (sym moved.listed ∙ no-blocks m.blocks is))
    ∙ sym stands.site
site-still told c p (entries.Erased x) nsid lba b is orderly standing follows there =
    let erased : IsErasable c p x.unit = follows refl in
    let stands = standing.blocks nsid lba b there in
    let site : site_of p nsid lba ≡ Some stands.spot = ap (option_and_then (λ (y : Block). p.trail.site y.page)) there ∙ stands.site in
    let apart : stands.spot.unit ≢ x.unit = subst (λ (o : Option Spot). IfSome o (λ (spot : Spot). spot.unit ≢ x.unit)) site (erased.empty nsid lba) in
    ap (option_and_then (outside x.unit)) stands.site ∙ ap (λ (t : Bool). if t then None else Some stands.spot) (ne_eqb stands.spot.unit x.unit apart) ∙ sym stands.site
site-still told c p (entries.Retired x) nsid lba b is orderly standing follows there = refl
site-still told c p (entries.Aside x) nsid lba b is orderly standing follows there = refl
site-still told c p (entries.Shut s) nsid lba b is orderly standing follows there = refl
site-still told c p (entries.Worn w) nsid lba b is orderly standing follows there = refl
site-still told c p entries.Reopened nsid lba b is orderly standing follows there = refl

next-trail : (c : DriveConfig) (p : Point) (e : Entry) → (next c p e).trail ≡ traced_by c p.trail e
unfolding next
next-trail c p e = refl

-- what stands after the entry
state-data : (c : DriveConfig) (f : Found) (es : List Entry) (e : Entry) → leaves_nothing e ≡ true → KeepsData (point_of c f es).state (point_of c f (es ++ e ∷ [])).state
unfolding point_of
state-data c f es e is = data-still c f es e is

host-same : (c : DriveConfig) (f : Found) (es : List Entry) (e : Entry) → leaves_nothing e ≡ true → (point_of c f (es ++ e ∷ [])).host_events ≡ (point_of c f es).host_events
unfolding point_of
host-same c f es e is = host-still c f es e is

controller-same : (c : DriveConfig) (f : Found) (es : List Entry) (e : Entry) → leaves_nothing e ≡ true → (point_of c f (es ++ e ∷ [])).controller_events ≡ (point_of c f es).controller_events
unfolding point_of
controller-same c f es e is = controller-still c f es e is

totals-same : (c : DriveConfig) (f : Found) (es : List Entry) → (point_of c f es).totals ≡ totals_of f es
unfolding point_of
totals-same c f es = refl

-- the page of each block stays
page-still : (told : Bool) (c : DriveConfig) (f : Found) (es : List Entry) (e : Entry) → leaves_nothing e ≡ true → IsOrderly c (point_of c f es) → IsStanding c (point_of c f es) → (IsFalse (leaves_pages e) → IsStep told c f es e)
    → (nsid lba : ℕ) → page_of_block c (point_of c f (es ++ e ∷ [])) nsid lba ≡ page_of_block c (point_of c f es) nsid lba
page-still told c f es e is orderly standing follows nsid lba =
    let p : Point = point_of c f es in
    let q : Point = point_of c f (es ++ e ∷ []) in
    let blocks : q.state.blocks ≡ p.state.blocks = (state-data c f es e is).blocks in
    let trail : q.trail ≡ traced_by c p.trail e = ap (λ (x : Point). x.trail) (point_of-push c f es e) ∙ next-trail c p e in
    ap (λ (o : Option Block). option_map (page_number (geometry_of c)) (option_and_then (λ (b : Block). q.trail.site b.page) o)) (λ i. blocks i nsid lba)
    ∙ ap (λ (t : Trail). option_map (page_number (geometry_of c)) (option_and_then (λ (b : Block). t.site b.page) (p.state.blocks nsid lba))) trail
    ∙ cases (p.state.blocks nsid lba) refl
  where
    cases : (o : Option Block) → (point_of c f es).state.blocks nsid lba ≡ o
        → option_map (page_number (geometry_of c)) (option_and_then (λ (b : Block). (traced_by c (point_of c f es).trail e).site b.page) o)
        ≡ option_map (page_number (geometry_of c)) (option_and_then (λ (b : Block). (point_of c f es).trail.site b.page) o)
    cases None there = refl
    cases (Some b) there = ap (option_map (page_number (geometry_of c))) (site-still told c (point_of c f es) e nsid lba b is orderly standing follows there)

pub drawn-still : (told : Bool) (c : DriveConfig) (f : Found) (es : List Entry) (e : Entry) → IsTrue (leaves_nothing e) → IsOrderly c (point_of c f es) → IsStanding c (point_of c f es) → (IsFalse (leaves_pages e) → IsStep told c f es e)
    → drawn c (point_of c f (es ++ e ∷ [])) ≡ record (drawn c (point_of c f es)) { totals = totals_of f (es ++ e ∷ []) }
drawn-still told c f es e is orderly standing follows =
    let kept : KeepsData (point_of c f es).state (point_of c f (es ++ e ∷ [])).state = state-data c f es e is in
    let host : (point_of c f (es ++ e ∷ [])).host_events ≡ (point_of c f es).host_events = host-same c f es e is in
    let controller : (point_of c f (es ++ e ∷ [])).controller_events ≡ (point_of c f es).controller_events = controller-same c f es e is in
    let totals : (point_of c f (es ++ e ∷ [])).totals ≡ totals_of f (es ++ e ∷ []) = totals-same c f (es ++ e ∷ []) in
    λ i. record {
      totals = totals i;
      enabled = kept.enabled i;
      index = kept.index i;
      generation = kept.generation i;
      reports = kept.reports i;
      namespaces = kept.namespaces i;
      pages = λ nsid lba. page-still told c f es e is orderly standing follows nsid lba i;
      host_events = host i;
      controller_events = controller i;
    }

-- ---- other totals

pub shows-totals : (c : DriveConfig) (f : Found) (es : List Entry) (cells : List Cell) (r : Reading) (totals : Totals) → Shows c f cells es r → Shows c f cells es (record r { totals = totals })
unfolding state_in state_with
shows-totals c f es cells r totals h = record { lasting_part = h.lasting_part; host_events = h.host_events; controller_events = h.controller_events }

pub valid-totals : (c : DriveConfig) (cells : List Cell) (r : Reading) (totals : Totals) → r.totals.position ≤ totals.position → IsValid c cells r → IsValid c cells (record r { totals = totals })
unfolding state_with
valid-totals c cells r totals later h = record {
  index = h.index;
  identifiers = h.identifiers;
  namespaces = λ nsid x e. let n = h.namespaces nsid x e in record { some_blocks = n.some_blocks; list = n.list; born = omega (arith, n.born, later) };
  room = h.room;
  blocks = λ nsid lba page e.
      let b = h.blocks nsid lba page e in
      record { data_page = b.data_page; namespace = b.namespace; there = b.there; within = b.within; block = b.block; held = b.held; listed = b.listed };
  apart = h.apart;
}
