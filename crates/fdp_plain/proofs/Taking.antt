-- What an entry leaves in the tables is what it makes of all that stands.
use Rattle.std.proofs.Common.{◌≡◌, refl, arith, drop, ne_eqb, ⊎_elim, Option, ℕ, ◌+◌, ◌*◌, ◌<◌, ◌++◌, ◌∷◌, [], true, false, Bool, not, List, length, Some, sym, ◌∙◌, ap, subst, length-append}
use Rattle.std.specs.Prelude.{◌==◌, ◌&&◌, filter, if◌then◌else◌, nat_lt, option_and_then, option_map}
use Rattle.std.proofs.lemmas.List.Elements.{filter-append}
use Rattle.fdp_base.specs.declared.config.DriveConfig.{DriveConfig}
use Rattle.fdp_base.specs.declared.entry.Entry.{Entry}
use Rattle.fdp_base.specs.declared.event.Event.{Event}
use Rattle.fdp_rules.specs.Change.{after, changed_by}
use Rattle.fdp_base.specs.Config.{IsValidConfig}
use Rattle.fdp_rules.specs.Events.{is_host_event, kept_of_entry, latest}
use Rattle.fdp_rules.specs.History.{point_of}
use Rattle.fdp_base.specs.declared.entry.Entry.TheVariants as entries
use Rattle.fdp_base.specs.declared.entry.Spot.{Spot}
use Rattle.fdp_history.proofs.Written.{host-left}
use Rattle.fdp_rules.specs.Legal.{IsLegal}
use Rattle.fdp_rules.specs.Next.{next}
use Rattle.fdp_rules.specs.PlainState.{Block, Going, PageName, PageName.found, PageName.written, PlainState}
use Rattle.fdp_rules.specs.Point.{Copy, Point, Trail}
use Rattle.fdp_rules.specs.Sites.{is_page_of, last_run, moved_by, outside, pass_in, traced_by, trail_of}
use Rattle.fdp_rules.specs.Step.{Follows, IsStep}
use Rattle.fdp_rules.specs.Totals.{erases_of, host_blocks_of, media_blocks_of}
use Rattle.fdp_rules.proofs.Pushes.{latest-append, legal-push, point_of-push, trail_of-push}
use Rattle.fdp_tables.specs.declared.state.Kept.{Kept}
use Rattle.fdp_plain_effects.specs.Rows.{KeepsRows}
use Rattle.fdp_plain_trail.specs.Rows.{places_of}
use Rattle.fdp_tables.specs.Sound.{KnowsFound}
use Rattle.fdp_tables.specs.Starts.{AreStarts, cut, start_of}
use Rattle.fdp_tables.specs.State.{copies_at, is_opening, own_entries, plain_of, point_kept, site_at, table_site, table_trail}
use Rattle.fdp_plain.specs.Longer.{IsLonger, IsTraced, TracesFound}
use Rattle.fdp_plain.specs.Prepared.{pages_of}
use Rattle.fdp_plain.specs.Rows.{HasRows}
use Rattle.fdp_plain.specs.Found.{BeginsInOrder}
use Rattle.fdp_plain.specs.Run.{AreLegalBehind, Run, found_of, point_in}
use Rattle.fdp_plain.specs.Telling.{TellsHistory, run_of}
use Rattle.fdp_plain.proofs.Fitting.{with_change}
use Rattle.fdp_plain.proofs.Rows.{places_from}
use Rattle.fdp_plain.proofs.Runs.{cut_push, own_push, starts_still}
use Rattle.fdp_plain.proofs.Same.{same_site}
use Rattle.fdp_base.specs.CommandKinds.{blocks_written}

-- no page is both written and found
written_not_found : (ticket index : ℕ) (spot : Spot) → (let name : PageName = written ticket index in name) ≡ found spot → ⊥
written_not_found ticket index spot e = absurd cc

-- the events of a class, with those of an entry more
class_of-more : (p : Event → Bool) (old new : List Event) → latest (filter p (old ++ new)) ≡ latest (latest (filter p old) ++ filter p new)
class_of-more p old new = ap latest (filter-append p old new) ∙ latest-append (filter p old) (filter p new)

point-trail : (k : Kept) → TellsHistory k → (point_kept k).trail ≡ trail_of k.config (own_entries k)
unfolding point_of
point-trail k h = ap (λ (p : Point). p.trail) h.point

and_no : (b : Bool) → b && false ≡ false
and_no true = refl
and_no false = refl

-- what an entry makes of the site of a page rests on where that page stood, and on the copies
pub traced_same : (c : DriveConfig) (t u : Trail) (e : Entry) (name : PageName) → t.site name ≡ u.site name → t.copies ≡ u.copies → (traced_by c t e).site name ≡ (traced_by c u e).site name
unfolding traced_by
traced_same c t u (entries.Host h) name same copies = same
traced_same c t u (entries.Started s) name same copies = same
traced_same c t u (entries.Placed p) name same copies = ap (λ (o : Option Spot). if is_page_of p.ticket p.index name then Some (record { unit = p.unit; page = p.page }) else o) same
traced_same c t u (entries.Copied copied) name same copies = same
traced_same c t u (entries.Moved m) name same copies =
    ap (λ (o : Option Spot). option_map (moved_by (pass_in t m.rg)) o) same
    ∙ ap (λ (f : ℕ → List Copy). option_map (moved_by (last_run (f m.rg))) (u.site name)) copies
traced_same c t u (entries.Erased x) name same copies = ap (λ (o : Option Spot). option_and_then (outside x.unit) o) same
traced_same c t u (entries.Retired x) name same copies = same
traced_same c t u (entries.Aside x) name same copies = same
traced_same c t u (entries.Shut x) name same copies = same
traced_same c t u (entries.Worn x) name same copies = same
traced_same c t u entries.Reopened name same copies = same

-- a block at a page that was found stood there before the entry
found_before : (c : DriveConfig) (s : PlainState) (e : Entry) (nsid lba : ℕ) (b : Block) (spot : Spot) → (after c s e).blocks nsid lba ≡ Some b → b.page ≡ found spot → s.blocks nsid lba ≡ Some b
unfolding after changed_by
found_before c s (entries.Host h) nsid lba b spot there is =
    ⊎_elim (λ old. old) (λ new. absurd (written_not_found new.1.going.ticket new.1.index spot (sym new.1.page ∙ is))) (host-left c s h.queue h.number h.command h.reply h.moment nsid lba b there)
found_before c s (entries.Started x) nsid lba b spot there is = there
found_before c s (entries.Placed x) nsid lba b spot there is = there
found_before c s (entries.Copied x) nsid lba b spot there is = there
found_before c s (entries.Moved x) nsid lba b spot there is = there
found_before c s (entries.Erased x) nsid lba b spot there is = there
found_before c s (entries.Retired x) nsid lba b spot there is = there
found_before c s (entries.Aside x) nsid lba b spot there is = there
found_before c s (entries.Shut x) nsid lba b spot there is = there
found_before c s (entries.Worn x) nsid lba b spot there is = there
found_before c s entries.Reopened nsid lba b spot there is = there

-- an entry whose change was made in a, whose trace in b, and which was counted and kept in m
module _ (k a b m : Kept) (e : Entry) (events : List Event)
    (history : TellsHistory k)
    (follows : Follows true k.config (point_kept k) e)
    (changed : plain_of a ≡ changed_by k.config (plain_of k) e)
    (rest : a ≡ with_change k a)
    (rows : KeepsRows k a)
    (traced : IsTraced a b e (pages_of e))
    (traced_found : TracesFound a b e)
    (longer : IsLonger b m e events)
    (kept : events ≡ kept_of_entry k.config (plain_of k) e) where
  config_is : m.config ≡ k.config
  config_is = ap (λ (x : Kept). x.config) longer.rest ∙ ap (λ (x : Kept). x.config) traced.rest ∙ ap (λ (x : Kept). x.config) rest

  before_is : b.entries.items ≡ k.entries.items
  before_is = ap (λ (x : Kept). x.entries.items) traced.rest ∙ ap (λ (x : Kept). x.entries.items) rest

  pub entries_are : m.entries.items ≡ k.entries.items ++ e ∷ []
  entries_are = longer.entries ∙ ap (λ (es : List Entry). es ++ e ∷ []) before_is

  starts_are : m.starts.items ≡ k.starts.items
  starts_are = ap (λ (x : Kept). x.starts.items) longer.rest ∙ ap (λ (x : Kept). x.starts.items) traced.rest ∙ ap (λ (x : Kept). x.starts.items) rest

  own_are : own_entries m ≡ own_entries k ++ e ∷ []
  own_are =
      ap (λ (starts : List ℕ). drop (start_of starts) m.entries.items) starts_are
      ∙ ap (λ (es : List Entry). drop (start_of k.starts.items) es) entries_are
      ∙ own_push k.starts.items k.entries.items (e ∷ []) history.starts

  pub run_is : run_of m ≡ record { config = k.config; earlier = (run_of k).earlier; entries = (run_of k).entries ++ e ∷ [] }
  run_is =
      let run : DriveConfig → List (List Entry) → List Entry → Run = λ b earlier es. record { config = b; earlier = earlier; entries = es } in
      ap (λ (b : DriveConfig). run b (run_of m).earlier (own_entries m)) config_is
      ∙ ap (λ (starts : List ℕ). run k.config (cut 0 starts m.entries.items) (own_entries m)) starts_are
      ∙ ap (λ (es : List Entry). run k.config (cut 0 k.starts.items es) (own_entries m)) entries_are
      ∙ ap (λ (earlier : List (List Entry)). run k.config earlier (own_entries m)) (cut_push 0 k.starts.items k.entries.items (e ∷ []) history.starts)
      ∙ ap (λ (es : List Entry). run k.config (run_of k).earlier es) own_are

  -- the run has an entry, so it is no opening
  opening_is : is_opening m ≡ false
  opening_is =
      let some : (length (own_entries k ++ e ∷ []) == 0) ≡ false = ne_eqb (length (own_entries k ++ e ∷ [])) 0 (λ none. omega (arith, none, length-append (own_entries k) (e ∷ []))) in
      ap (λ (es : List Entry). nat_lt 0 (length m.starts.items) && (length es == 0)) own_are
      ∙ ap (λ (b : Bool). nat_lt 0 (length m.starts.items) && b) some
      ∙ and_no (nat_lt 0 (length m.starts.items))

  count_is : length m.entries.items ≡ length k.entries.items + 1
  count_is = ap length entries_are ∙ length-append k.entries.items (e ∷ [])

  state_is : plain_of m ≡ after k.config (plain_of k) e
  unfolding after
  state_is =
      ap plain_of longer.rest
      ∙ ap (λ (x : Kept). let s : PlainState = record (plain_of x) { position = length m.entries.items } in s) traced.rest
      ∙ ap (λ (x : PlainState). let s : PlainState = record x { position = length m.entries.items } in s) changed
      ∙ ap (λ (n : ℕ). let s : PlainState = record (changed_by k.config (plain_of k) e) { position = n } in s) count_is

  -- ---- sites and copies

  trail_before : (point_kept a).trail ≡ (point_kept k).trail
  trail_before =
      let site : site_at a ≡ site_at k = λ d name.
      same_site k a (ap (λ (x : Kept). x.sites.rows) rest) (ap (λ (x : Kept). x.config) rest) (ap own_entries rest) name d in
      let copies : copies_at a ≡ copies_at k = ap copies_at rest in
      cc

  traced_is : traced_by a.config (point_kept a).trail e ≡ traced_by k.config (point_kept k).trail e
  traced_is =
      ap (λ (c : DriveConfig). traced_by c (point_kept a).trail e) (ap (λ (x : Kept). x.config) rest)
      ∙ ap (λ (t : Trail). traced_by k.config t e) trail_before

  site_is : (name : PageName) → site_at m name ≡ (traced_by k.config (point_kept k).trail e).site name
  site_is (written ticket index) =
      ap (λ (x : Kept). site_at x (written ticket index)) longer.rest
      ∙ traced.sites ticket index
      ∙ ap (λ (t : Trail). t.site (written ticket index)) traced_is
  site_is (found spot) =
      ap (λ (c : DriveConfig). (trail_of c (own_entries m)).site (found spot)) config_is
      ∙ ap (λ (es : List Entry). (trail_of k.config es).site (found spot)) own_are
      ∙ ap (λ (t : Trail). t.site (found spot)) (trail_of-push k.config (own_entries k) e ∙ ap (λ (t : Trail). traced_by k.config t e) (sym (point-trail k history)))

  copies_are : copies_at m ≡ (traced_by k.config (point_kept k).trail e).copies
  copies_are = ap copies_at longer.rest ∙ traced.copies ∙ ap (λ (t : Trail). t.copies) traced_is

  -- the table tells of each block that was found where its page stands
  known_is : KnowsFound m
  known_is nsid lba b spot there is =
      let old : (plain_of k).blocks nsid lba ≡ Some b = found_before k.config (plain_of k) e nsid lba b spot (sym (ap (λ (s : PlainState). s.blocks nsid lba) state_is) ∙ there) is in
      let before : table_site a (found spot) ≡ site_at k (found spot) = ap (λ (x : Kept). table_site x (found spot)) rest ∙ history.known nsid lba b spot old is in
      let copies : copies_at a ≡ copies_at k = ap copies_at rest in
      ap (λ (x : Kept). table_site x (found spot)) longer.rest
      ∙ traced_found spot
      ∙ ap (λ (c : DriveConfig). (traced_by c (table_trail a) e).site (found spot)) (ap (λ (x : Kept). x.config) rest)
      ∙ traced_same k.config (table_trail a) (point_kept k).trail e (found spot) before copies
      ∙ sym (site_is (found spot))

  -- ---- sums and events

  sum_is : (read : Kept → ℕ) (of : Entry → ℕ) → read m ≡ read b + of e → read b ≡ read k → read m ≡ read k + of e
  sum_is read of now before = now ∙ ap (λ (n : ℕ). n + of e) before

  events_are : m.events.items ≡ k.events.items ++ kept_of_entry k.config (plain_of k) e
  events_are =
      longer.events
      ∙ ap (λ (es : List Event). es ++ events) (ap (λ (x : Kept). x.events.items) traced.rest ∙ ap (λ (x : Kept). x.events.items) rest)
      ∙ ap (λ (es : List Event). k.events.items ++ es) kept

  -- ---- all that stands

  point_is : point_kept m ≡ next k.config (point_kept k) e
  unfolding next
  point_is =
      let state = state_is in
      let opening = opening_is in
      let site : site_at m ≡ (traced_by k.config (point_kept k).trail e).site = λ d name. site_is name d in
      let copies = copies_are in
      let count = count_is in
      let hosts : m.host_blocks ≡ k.host_blocks + host_blocks_of e = sum_is (λ x. x.host_blocks) host_blocks_of longer.host_blocks (ap (λ (x : Kept). x.host_blocks) traced.rest ∙ ap (λ (x : Kept). x.host_blocks) rest) in
      let media : m.media_blocks ≡ k.media_blocks + media_blocks_of e = sum_is (λ x. x.media_blocks) media_blocks_of longer.media_blocks (ap (λ (x : Kept). x.media_blocks) traced.rest ∙ ap (λ (x : Kept). x.media_blocks) rest) in
      let erased : m.erases ≡ k.erases + erases_of e = sum_is (λ x. x.erases) erases_of longer.erases (ap (λ (x : Kept). x.erases) traced.rest ∙ ap (λ (x : Kept). x.erases) rest) in
      let others : Event → Bool = λ x. not (is_host_event x) in
      let new : List Event = kept_of_entry k.config (plain_of k) e in
      let host_class : latest (filter is_host_event m.events.items) ≡ latest (latest (filter is_host_event k.events.items) ++ filter is_host_event new) = ap (λ (es : List Event). latest (filter is_host_event es)) events_are ∙ class_of-more is_host_event k.events.items new in
      let other_class : latest (filter others m.events.items) ≡ latest (latest (filter others k.events.items) ++ filter others new) = ap (λ (es : List Event). latest (filter others es)) events_are ∙ class_of-more others k.events.items new in
      λ d. record {
        is_opening = opening d;
        state = state d;
        trail = record { site = site d; copies = copies d };
        totals = record { position = count d; host_blocks = hosts d; media_blocks = media d; erases = erased d };
        host_events = host_class d;
        controller_events = other_class d;
      }

  -- ---- rows

  as_many_sites : length a.sites.rows ≡ length k.sites.rows
  as_many_sites = ap (λ (x : Kept). length x.sites.rows) rest

  sites_are : length m.sites.rows ≡ length m.entries.items + 1
  sites_are =
      ap (λ (x : Kept). length x.sites.rows) longer.rest
      ∙ traced.site_rows
      ∙ ap (λ (n : ℕ). n + 1) (as_many_sites ∙ history.rows.sites ∙ sym count_is)

  going_is : (plain_of m).going ≡ (changed_by k.config (plain_of k) e).going
  unfolding after
  going_is = ap (λ (s : PlainState). s.going) state_is

  pages_are : (queue : ℕ) (g : Going) → (plain_of m).going queue ≡ Some g → places_of m g.ticket ≡ Some (blocks_written g.command)
  pages_are = places_from k.config k m e history.rows going_is
      (λ ticket below.
      ap (λ (x : Kept). places_of x ticket) longer.rest
      ∙ traced.earlier ticket (subst (λ (n : ℕ). ticket < n) (sym as_many_sites) below)
      ∙ ap (λ (x : Kept). places_of x ticket) rest)
      (ap (places_of m) (sym as_many_sites) ∙ ap (λ (x : Kept). places_of x (length a.sites.rows)) longer.rest ∙ traced.latest)

  rows_are : HasRows m
  rows_are =
      let old = history.rows in
      let config = config_is in
      let traced_rest = traced.rest in
      let longer_rest = longer.rest in
      record {
        spaces = ap (λ (x : Kept). length x.spaces.items) longer_rest ∙ ap (λ (x : Kept). length x.spaces.items) traced_rest ∙ rows.spaces ∙ old.spaces;
        reports = ap (λ (x : Kept). length x.reports.items) longer_rest ∙ ap (λ (x : Kept). length x.reports.items) traced_rest ∙ rows.reports ∙ old.reports;
        references = ap (λ (x : Kept). length x.references.items) longer_rest ∙ ap (λ (x : Kept). length x.references.items) traced_rest ∙ rows.references ∙ old.references ∙ ap (λ (c : DriveConfig). 16 * c.groups) (sym config);
        going = ap (λ (x : Kept). length x.going.items) longer_rest ∙ ap (λ (x : Kept). length x.going.items) traced_rest ∙ rows.going ∙ old.going ∙ ap (λ (c : DriveConfig). c.queues + 1) (sym config);
        lost = ap (λ (x : Kept). length x.lost.items) longer_rest ∙ ap (λ (x : Kept). length x.lost.items) traced_rest ∙ rows.lost ∙ old.lost ∙ ap (λ (c : DriveConfig). c.groups * c.units) (sym config);
        worn = ap (λ (x : Kept). length x.worn.items) longer_rest ∙ ap (λ (x : Kept). length x.worn.items) traced_rest ∙ rows.worn ∙ old.worn ∙ ap (λ (c : DriveConfig). c.groups) (sym config);
        sites = sites_are;
        copies = ap (λ (x : Kept). length x.copies.items) longer_rest ∙ traced.copy_rows ∙ ap (λ (x : Kept). length x.copies.items) rest ∙ old.copies ∙ ap (λ (c : DriveConfig). c.groups) (sym config);
        pages = pages_are;
      }

  -- ---- the tables say what stands after the entries and this one

  -- the run with the entry
  abbrev with_entry : Run
  with_entry = record { config = k.config; earlier = (run_of k).earlier; entries = (run_of k).entries ++ e ∷ [] }

  longer_is : point_kept m ≡ point_in with_entry
  longer_is =
      point_is
      ∙ ap (λ (p : Point). next k.config p e) history.point
      ∙ sym (point_of-push k.config (found_of (run_of k)) (own_entries k) e)

  pub taken : TellsHistory m
  taken =
      let f = found_of (run_of k) in
      let run : with_entry ≡ run_of m = sym run_is in
      let step : IsStep true k.config f (own_entries k) e = subst (λ (p : Point). Follows true k.config p e) history.point follows in
      let legal : IsLegal true k.config f (own_entries k ++ e ∷ []) = legal-push true k.config f (own_entries k) e history.legal step in
      record {
        config = subst IsValidConfig (sym config_is) history.config;
        rows = rows_are;
        starts = subst (λ (starts : List ℕ). AreStarts 0 starts (length m.entries.items)) (sym starts_are) (starts_still 0 k.starts.items (length k.entries.items) (length m.entries.items) (omega (arith, count_is)) history.starts);
        begins = subst (λ (r : Run). BeginsInOrder r.config (found_of r)) run history.begins;
        known = known_is;
        point = longer_is ∙ ap point_in run;
        earlier = subst (λ (r : Run). AreLegalBehind r.config [] r.earlier) run history.earlier;
        legal = subst (λ (r : Run). IsLegal true r.config (found_of r) r.entries) run legal;
      }
