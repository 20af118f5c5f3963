-- A write whose change was made may be answered with Write Fault, since its saving failed: the tables stand for that history too.
use Rattle.std.proofs.Common.{◌≡◌, ◌⊎◌, ℕ, ◌+◌, ◌≤◌, true, List, [], ◌∷◌, ◌++◌, length, Option, refl, sym, ◌∙◌, ap, subst, arith, length-append, ⊎_elim}
use Rattle.std.specs.Prelude.{if◌then◌else◌, option_map}
use Rattle.fdp_base.specs.declared.command.Command.{Command}
use Rattle.fdp_base.specs.declared.config.DriveConfig.{DriveConfig}
use Rattle.fdp_base.specs.declared.entry.Entry.{Entry}
use Rattle.fdp_base.specs.declared.entry.Spot.{Spot}
use Rattle.fdp_base.specs.declared.entry.Totals.{Totals}
use Rattle.fdp_base.specs.declared.status.Status.{Status}
use Rattle.fdp_base.specs.declared.status.TheConstants.Status as statuses
use Rattle.fdp_book.specs.declared.tables.Tables.{Tables}
use Rattle.fdp_book.specs.Held.{ArePagesOf, IsHeld, IsHeldAt}
use Rattle.fdp_book.specs.Outlined.{AreFew, IsOutlineAt}
use Rattle.fdp_book.specs.Room.{told_reply}
use Rattle.fdp_book.proofs.Held.Next.{AreTablesOf, held-after}
use Rattle.fdp_book.proofs.Kept.{IsAlike, flights-alike, map-alike}
use Rattle.fdp_book.proofs.Leading.{leads-same}
use Rattle.fdp_history.proofs.Changed.{unit-kept, with-parts}
use Rattle.fdp_history.specs.Listed.{IsListed}
use Rattle.fdp_history.specs.Orderly.{IsOrderly}
use Rattle.fdp_history.specs.Standing.{IsStanding}
use Rattle.fdp_readings.specs.fdp_locations.Located.{AreLed, handle_at}
use Rattle.fdp_readings.specs.fdp_locations.Written.{Written, written_by}
use Rattle.fdp_readings.proofs.fdp_locations.Ended.{host}
use Rattle.fdp_readings.proofs.fdp_locations.Histories.{written_by-push}
use Rattle.fdp_readings.proofs.fdp_locations.Units.{alike-self, units-same}
use Rattle.fdp_readings.specs.fdp_pages.PageTables.{PageTables}
use Rattle.fdp_pointers.specs.Contents.{PageContent, content_at}
use Rattle.fdp_pointers.specs.Facts.{Page}
use Rattle.fdp_pointers.specs.Pointers.{Behind, Pointer, Pointer.of_block, Pointer.of_flight}
use Rattle.fdp_rules.proofs.Pushes.{point_of-push}
use Rattle.fdp_rules.specs.Change.{after, changed_by, is_status}
use Rattle.fdp_rules.specs.Events.{events_of_entry, kept_of_entry}
use Rattle.fdp_rules.specs.History.{Found, point_of}
use Rattle.fdp_rules.specs.Next.{next}
use Rattle.fdp_rules.specs.PlainState.{PlainState}
use Rattle.fdp_rules.specs.Point.{Point}
use Rattle.fdp_rules.specs.Sites.{traced_by}

-- ---- a point with other moments of media errors

abbrev media_in : PlainState → List ℕ → PlainState
media_in s media = record s { media = media }

abbrev with_media : Point → List ℕ → Point
with_media q media = record q { state = media_in q.state media }

orderly-media : (c : DriveConfig) (q : Point) (media : List ℕ) → length media ≤ q.state.position → IsOrderly c q → IsOrderly c (with_media q media)
orderly-media c q media few h = record {
  state = with-parts c q.state (media_in q.state media) (omega arith) refl refl refl refl
      (record {
        writes = h.state.writes;
        tickets = h.state.tickets;
        blocks = h.state.blocks;
        references = h.state.references;
        kept = unit-kept c q.state h.state;
        units = h.state.units;
        media = few;
      })
      h.state;
  positions = h.positions;
  sites = h.sites;
  copies = h.copies;
}

standing-media : (c : DriveConfig) (q : Point) (media : List ℕ) → IsStanding c q → IsStanding c (with_media q media)
standing-media c q media h = record {
  blocks = λ nsid lba b there. let b = h.blocks nsid lba b there in record { spot = b.spot; site = b.site; page = b.page; group = b.group; since = b.since; ended = b.ended };
  writes = h.writes;
}

content-media : (c : DriveConfig) (s : PlainState) (media : List ℕ) (p : Pointer) → content_at c (media_in s media) p ≡ content_at c s p
content-media c s media (of_block nsid lba) = refl
content-media c s media (of_flight queue index) = refl

handle-media : (s : PlainState) (media : List ℕ) (p : Pointer) → handle_at (media_in s media) p ≡ handle_at s p
handle-media s media (of_block nsid lba) = refl
handle-media s media (of_flight queue index) = refl

led-media : (c : DriveConfig) (q : Point) (media : List ℕ) (written : Spot → Option Written) (at : Behind Page) (t : PageTables) → AreLed c q written at t → AreLed c (with_media q media) written at t
led-media c q media written at t h = record {
  table = record {
    follows = λ p. ap (option_map (λ (x : PageContent). q.trail.site x.name)) (content-media c q.state media p) ∙ h.table.follows p;
    apart = h.table.apart;
    below = h.table.below;
    copies = h.table.copies;
  };
  owned = h.owned;
  named = h.named;
  handled = λ p y ruh there is. h.handled p y ruh there (sym (handle-media q.state media p) ∙ is);
  units = h.units;
  holds = λ p y x there content. h.holds p y x there (sym (content-media c q.state media p) ∙ content);
  below = h.below;
  passes = h.passes;
  copies = h.copies;
}

alike-media : (s : PlainState) (media : List ℕ) → IsAlike s (media_in s media)
alike-media s media = record { enabled = refl; index = refl; generation = refl; namespaces = refl }

listed-media : (c : DriveConfig) (s : PlainState) (media : List ℕ) → IsListed c s → IsListed c (media_in s media)
listed-media c s media h = record { handles = h.handles; blocks = h.blocks; room = h.room }

tables-media : (c : DriveConfig) (s : PlainState) (media : List ℕ) (t : Tables) → AreTablesOf c s t → AreTablesOf c (media_in s media) t
tables-media c s media t h =
    let alike = alike-media s media in
    record {
      map_is = map-alike c s (media_in s media) t.map alike refl h.map_is;
      flights_are = flights-alike c s (media_in s media) t.flights.items alike refl h.flights_are;
      units_are = units-same c s (media_in s media) t.pages t.pages (record { enabled = refl; index = refl; references = refl; is_lost = refl; is_worn = refl }) (alike-self t.pages.units) refl h.units_are;
    }

-- with another last entry the sums are as few
few-alike : (es : List Entry) (d e : Entry) (t : Totals) → AreFew (es ++ d ∷ []) t → AreFew (es ++ e ∷ []) t
few-alike es d e t h =
    let old : length (es ++ d ∷ []) ≡ length es + 1 = length-append es (d ∷ []) in
    let count : length (es ++ e ∷ []) ≡ length es + 1 = length-append es (e ∷ []) in
    record { few_host_blocks = omega (arith, h.few_host_blocks, old, count); few_media_blocks = omega (arith, h.few_media_blocks, old, count); few_erases = omega (arith, h.few_erases, old, count) }

-- ---- one answer in the place of another

module _ (c : DriveConfig) (found : Found) (first : Spot → Option Written) (es : List Entry) (queue number : ℕ) (command : Command) (moment : ℕ) where
  abbrev p : Point
  p = point_of c found es

  abbrev answered : Status → ℕ → Entry
  answered status dword0 = host queue number command (told_reply status dword0 true) moment

  abbrev media : List ℕ
  media = moment ∷ p.state.media

  faulted-point : (a b : ℕ) → next c p (answered statuses.WRITE_FAULT b) ≡ with_media (next c p (answered statuses.SUCCESS a)) media
  unfolding next after changed_by traced_by kept_of_entry events_of_entry
  faulted-point a b = refl

  few-media : (a : ℕ) → IsOrderly c p → length media ≤ (next c p (answered statuses.SUCCESS a)).state.position
  unfolding next after
  few-media a h = omega (arith, h.state.media)

  held-faulted : (a b : ℕ) (old t : Tables) → IsHeld c found first es old → IsHeld c found first (es ++ answered statuses.SUCCESS a ∷ []) t → IsHeld c found first (es ++ answered statuses.WRITE_FAULT b ∷ []) t
  held-faulted a b old t was h =
      let done : Entry = answered statuses.SUCCESS a in
      let q : Point = next c p done in
      let at : IsHeldAt c (es ++ done ∷ []) q (written_by c found first es) t =
      subst (λ (x : Point). IsHeldAt c (es ++ done ∷ []) x (written_by c found first es) t) (point_of-push c found es done)
      (subst (λ (w : Spot → Option Written). IsHeldAt c (es ++ done ∷ []) (point_of c found (es ++ done ∷ [])) w t) (written_by-push c found first es done) h) in
      let to : (X : Point → Type 0) → X (with_media q media) → X (next c p (answered statuses.WRITE_FAULT b)) = λ X x. subst X (sym (faulted-point a b)) x in
      held-after c found first es (answered statuses.WRITE_FAULT b) old t was
      (to (IsOrderly c) (orderly-media c q media (few-media a was.orderly) at.orderly))
      (to (IsStanding c) (standing-media c q media at.standing))
      (to (λ x. IsListed c x.state) (listed-media c q.state media at.listed))
      (to (λ x. AreTablesOf c x.state t) (tables-media c q.state media t (record { map_is = at.map_is; flights_are = at.flights_are; units_are = at.units_are })))
      (record { at = to (λ x. IsOutlineAt c x t.outline) (record { outline = at.outline_is.outline; totals = at.outline_is.totals }); few = few-alike es done (answered statuses.WRITE_FAULT b) t.outline.totals at.few })
      (to (λ x. ArePagesOf c x (written_by c found first es) t.map t.flights.items t.pages)
      (record {
        at = at.pages_are.at;
        led = led-media c q media (written_by c found first es) at.pages_are.at t.pages at.pages_are.led;
        leads = leads-same q.state (media_in q.state media) t.map t.flights.items at.pages_are.at refl at.pages_are.leads;
      }))

  -- a change that was made is answered with success, which tells this dword 0, or with Write Fault
  pub held-told : (dword0 : ℕ) (old t : Tables) (status : Status) → (status ≡ statuses.SUCCESS) ⊎ (status ≡ statuses.WRITE_FAULT) → IsHeld c found first es old → IsHeld c found first (es ++ answered statuses.SUCCESS dword0 ∷ []) t → IsHeld c found first (es ++ answered status (if is_status status statuses.SUCCESS then dword0 else 0) ∷ []) t
  held-told dword0 old t status is was h =
      ⊎_elim
      (λ (success : status ≡ statuses.SUCCESS). subst (λ (x : Status). IsHeld c found first (es ++ answered x (if is_status x statuses.SUCCESS then dword0 else 0) ∷ []) t) (sym success) h)
      (λ (fault : status ≡ statuses.WRITE_FAULT). subst (λ (x : Status). IsHeld c found first (es ++ answered x (if is_status x statuses.SUCCESS then dword0 else 0) ∷ []) t) (sym fault) (held-faulted dword0 0 old t was h))
      is

  -- without one
  pub held-made : (old t : Tables) (status : Status) → (status ≡ statuses.SUCCESS) ⊎ (status ≡ statuses.WRITE_FAULT) → IsHeld c found first es old → IsHeld c found first (es ++ answered statuses.SUCCESS 0 ∷ []) t → IsHeld c found first (es ++ answered status 0 ∷ []) t
  held-made old t status is was h =
      ⊎_elim
      (λ (success : status ≡ statuses.SUCCESS). subst (λ (x : Status). IsHeld c found first (es ++ answered x 0 ∷ []) t) (sym success) h)
      (λ (fault : status ≡ statuses.WRITE_FAULT). subst (λ (x : Status). IsHeld c found first (es ++ answered x 0 ∷ []) t) (sym fault) (held-faulted 0 0 old t was h))
      is
