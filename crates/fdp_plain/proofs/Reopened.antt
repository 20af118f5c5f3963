-- The tables of a run that goes on from another tell what stands as it begins.
use Rattle.std.proofs.Common.{◌≡◌, ℕ, zero, suc, ◌+◌, ◌-◌, ◌*◌, ◌<◌, ◌++◌, Bool, true, not, List, [], ◌∷◌, length, take, drop, map, Option, Some, None, refl, sym, ◌∙◌, ap, subst, arith, replicate, length-append, slice_get, reverse}
use Rattle.std.specs.Prelude.{◌==◌, ◌&&◌, filter, nat_lt, option_map}
use Rattle.std.specs.Option.{option_map_or}
use Rattle.std.specs.Vec.{vec_items}
use Rattle.std.proofs.lemmas.List.{drop_all, length-drop, length-map, length-replicate, take_all}
use Rattle.std.proofs.lemmas.List.Sums.{fold-append}
use Rattle.std.proofs.lemmas.Bool.Decides.{nat_tests}
use Rattle.std.proofs.lemmas.Option.{none-some}
use Rattle.fdp_base.specs.declared.config.DriveConfig.{DriveConfig}
use Rattle.fdp_base.specs.declared.entry.Entry.{Entry}
use Rattle.fdp_base.specs.declared.entry.Spot.{Spot}
use Rattle.fdp_base.specs.declared.event.Event.{Event}
use Rattle.fdp_base.specs.Config.{IsValidConfig}
use Rattle.fdp_rules.specs.Events.{is_host_event, latest}
use Rattle.fdp_rules.specs.History.{Found, found_block, fresh, point_of}
use Rattle.fdp_rules.specs.Legal.{IsLegal, IsLegalAfter}
use Rattle.fdp_rules.specs.PlainState.{Block, Going, PageName, PageName.found, PageName.written}
use Rattle.fdp_rules.specs.Point.{Point}
use Rattle.fdp_rules.specs.Sites.{first_site, trail_of}
use Rattle.fdp_tables.specs.declared.state.Kept.{Kept}
use Rattle.fdp_tables.specs.declared.state.KeptBlock.{KeptBlock}
use Rattle.fdp_tables.specs.declared.state.KeptPage.TheVariants as pages
use Rattle.fdp_tables.specs.PageSites.{site_in}
use Rattle.fdp_tables.specs.Sound.{KnowsFound}
use Rattle.fdp_tables.specs.Starts.{AreStarts, cut, start_of}
use Rattle.fdp_tables.specs.State.{block_at, block_of, copies_at, is_opening, own_entries, page_of, plain_of, point_kept, row, site_at, table_site}
use Rattle.fdp_tables.specs.Copies.{copy_of}
use Rattle.fdp_tables.proofs.Sited.{page_sited}
use Rattle.fdp_plain_effects.specs.Rows.{KeepsRows}
use Rattle.fdp_plain.specs.declared.reopen.Next.{Next}
use Rattle.fdp_plain.specs.Found.{BeginsInOrder, StandsInOrder, block_found, found_after, found_at}
use Rattle.fdp_plain.specs.Reopening.{Forgets, IsNamed, IsNext, named_block, site_by, tables_of}
use Rattle.fdp_plain.specs.Rows.{HasRows}
use Rattle.fdp_plain.specs.Run.{AreLegalBehind, Run, found_of, point_in}
use Rattle.fdp_plain.specs.Telling.{TellsHistory, run_of}
use Rattle.fdp_plain.proofs.LegalRuns.{legal-more}
use Rattle.fdp_plain.proofs.GoingOn.{begins, events_again, found_absent, found_from, found_standing, opened, opened_is, opened_point}
use Rattle.fdp_plain.proofs.Renaming.{by_tables}
use Rattle.fdp_plain.proofs.Runs.{cut_more, last_more, starts_more}
use Rattle.fdp_plain.proofs.Same.{copies_read}
use Rattle.fdp_plain.proofs.Sound.{history_in_order}

-- no page of a write has a row
no_site : (n ticket index : ℕ) → site_in (replicate n []) ticket index ≡ None
no_site zero ticket index = refl
no_site (suc n) zero zero = refl
no_site (suc n) zero (suc index) = refl
no_site (suc n) (suc ticket) index = no_site n ticket index

-- no group has a copy
no_copy : (n rg : ℕ) → option_map_or (λ (xs : List (Spot × Spot)). map copy_of xs) (slice_get (replicate n []) rg) [] ≡ []
no_copy zero rg = refl
no_copy (suc n) zero = refl
no_copy (suc n) (suc rg) = no_copy n rg

some_start : (starts : List ℕ) (n : ℕ) → nat_lt 0 (length (starts ++ n ∷ [])) ≡ true
some_start starts n =
    let e : length (starts ++ n ∷ []) ≡ length starts + 1 = length-append starts (n ∷ []) in
    let lt : nat_lt 0 (length starts + 1) ≡ true = grind (arith, nat_tests) in
    ap (λ (k : ℕ). nat_lt 0 k) e ∙ lt

-- the tables m of a run that goes on from those of k
module _ (k m : Kept) (next : Next)
    (h : TellsHistory k)
    (ready : IsNext k next)
    (named : (nsid : ℕ) → IsNamed (tables_of k) (row k.spaces.items nsid) (row m.spaces.items nsid))
    (forgets : Forgets k m)
    (rows : KeepsRows k m)
    (rest : m ≡ record k { starts = next.starts; spaces = m.spaces; references = m.references; going = m.going; lost = m.lost; worn = m.worn; media = m.media; sites = next.sites; found = next.found; copies = next.copies }) where
  abbrev c : DriveConfig
  c = k.config

  abbrev p : Point
  p = point_kept k

  config_is : m.config ≡ c
  config_is = ap (λ (x : Kept). x.config) rest

  entries_are : m.entries.items ≡ k.entries.items
  entries_are = ap (λ (x : Kept). x.entries.items) rest

  starts_are : m.starts.items ≡ k.starts.items ++ length k.entries.items ∷ []
  starts_are = ap (λ (x : Kept). x.starts.items) rest ∙ ready.starts

  -- ---- the run

  abbrev next_run : Run
  next_run = record { config = c; earlier = (run_of k).earlier ++ own_entries k ∷ []; entries = [] }

  none_own : own_entries m ≡ []
  none_own =
      let all : List Entry = k.entries.items in
      ap (λ (starts : List ℕ). drop (start_of starts) m.entries.items) starts_are
      ∙ ap (λ (n : ℕ). drop n m.entries.items) (last_more 0 k.starts.items (length all))
      ∙ drop_all (length all) m.entries.items (omega (arith, ap length entries_are))

  pub run_is : run_of m ≡ next_run
  run_is =
      let all : List Entry = k.entries.items in
      let run : DriveConfig → List (List Entry) → List Entry → Run = λ b earlier es. record { config = b; earlier = earlier; entries = es } in
      let piece : take (length all - start_of k.starts.items) (own_entries k) ≡ own_entries k =
      take_all (length all - start_of k.starts.items) (own_entries k) (omega (arith, length-drop (start_of k.starts.items) all)) in
      let earlier : cut 0 m.starts.items m.entries.items ≡ (run_of k).earlier ++ own_entries k ∷ [] =
      ap (λ (starts : List ℕ). cut 0 starts m.entries.items) starts_are
      ∙ ap (λ (es : List Entry). cut 0 (k.starts.items ++ length all ∷ []) es) entries_are
      ∙ cut_more 0 k.starts.items (length all) all
      ∙ ap (λ (es : List Entry). (run_of k).earlier ++ es ∷ []) piece in
      ap (λ (b : DriveConfig). run b (run_of m).earlier (own_entries m)) config_is
      ∙ ap (λ (es : List (List Entry)). run c es (own_entries m)) earlier
      ∙ ap (λ (es : List Entry). run c ((run_of k).earlier ++ own_entries k ∷ []) es) none_own

  -- it goes on where the tables stood
  found_is : found_of next_run ≡ found_at p
  found_is =
      fold-append (found_after c) (fresh c) (run_of k).earlier (own_entries k ∷ [])
      ∙ ap found_at (sym h.point)

  -- ---- the blocks

  order : StandsInOrder c p
  order = history_in_order k h

  -- where a block stands, it is named
  one_named : (nsid lba : ℕ) (o : Option KeptBlock) → block_at k nsid lba ≡ o → option_map block_of (option_map (named_block (tables_of k)) o) ≡ option_map found_block (block_found p nsid lba)
  one_named nsid lba None is = sym (found_absent p nsid lba (ap (option_map block_of) is))
  one_named nsid lba (Some b) is =
      let there : (plain_of k).blocks nsid lba ≡ Some (block_of b) = ap (option_map block_of) is in
      let stands = order.standing.blocks nsid lba (block_of b) there in
      let site : site_by (tables_of k) (page_of b.page) ≡ Some stands.spot =
      by_tables k (page_of b.page) ∙ page_sited k h.known nsid lba (block_of b) (page_of b.page) there refl ∙ stands.site in
      ap (λ (o : Option Spot). let new : Block = record { bytes = b.bytes; rg = b.rg; ruh = b.ruh; page = page_of (option_map_or pages.Found o b.page) } in Some new) site
      ∙ sym (found_standing p nsid lba (block_of b) stands.spot there stands.site)

  blocks_are : (nsid lba : ℕ) → (plain_of m).blocks nsid lba ≡ option_map found_block (block_found p nsid lba)
  blocks_are nsid lba = ap (option_map block_of) ((named nsid).blocks lba) ∙ one_named nsid lba (block_at k nsid lba) refl

  -- ---- all that stands

  state_is : plain_of m ≡ opened c p
  state_is = λ d. record {
    position = ap length entries_are d;
    enabled = ap (λ (x : Kept). x.enabled) rest d;
    index = ap (λ (x : Kept). x.index) rest d;
    generation = ap (λ (x : Kept). x.generation) rest d;
    reports = λ ruh kind. ap (λ (x : Kept). (plain_of x).reports ruh kind) rest d;
    namespaces = λ nsid. (named nsid).namespace d;
    blocks = λ nsid lba. blocks_are nsid lba d;
    references = forgets.references d;
    going = forgets.going d;
    is_lost = forgets.lost d;
    is_worn = forgets.worn d;
    media = ap reverse forgets.media d;
  }

  site_is : (name : PageName) → site_at m name ≡ first_site name
  unfolding trail_of
  site_is (written ticket index) =
      ap (λ (x : Kept). site_in x.sites.rows ticket index) rest
      ∙ ap (λ rs. site_in rs ticket index) ready.sites
      ∙ no_site (length k.entries.items + 1) ticket index
  site_is (found spot) = ap (λ (es : List Entry). (trail_of m.config es).site (found spot)) none_own

  copies_are : (rg : ℕ) → copies_at m rg ≡ []
  copies_are rg =
      ap (λ (x : Kept). copies_at x rg) rest
      ∙ copies_read vec_items next.copies.items rg
      ∙ ap (λ (rs : List (List (Spot × Spot))). option_map_or (λ xs. map copy_of xs) (slice_get rs rg) []) ready.copies
      ∙ no_copy c.groups rg

  opening_is : is_opening m ≡ true
  opening_is =
      ap (λ (es : List Entry). nat_lt 0 (length m.starts.items) && (length es == 0)) none_own
      ∙ ap (λ (starts : List ℕ). nat_lt 0 (length starts) && true) starts_are
      ∙ ap (λ (b : Bool). b && true) (some_start k.starts.items (length k.entries.items))

  class_is : (test : Event → Bool) → latest (filter test m.events.items) ≡ latest (latest (filter test k.events.items) ++ [])
  class_is test = ap (λ (x : Kept). latest (filter test x.events.items)) rest ∙ sym (events_again (filter test k.events.items))

  point_is : point_kept m ≡ opened_point c p
  point_is = λ d. record {
    is_opening = opening_is d;
    state = state_is d;
    trail = record { site = λ name. site_is name d; copies = λ rg. copies_are rg d };
    totals = record {
      position = ap length entries_are d;
      host_blocks = ap (λ (x : Kept). x.host_blocks) rest d;
      media_blocks = ap (λ (x : Kept). x.media_blocks) rest d;
      erases = ap (λ (x : Kept). x.erases) rest d;
    };
    host_events = class_is is_host_event d;
    controller_events = class_is (λ e. not (is_host_event e)) d;
  }

  pub point_begins : point_kept m ≡ point_in next_run
  point_begins = point_is ∙ sym (opened_is c p h.config order) ∙ ap (λ (f : Found). point_of c f []) (sym found_is)

  -- ---- the tables

  rows_are : HasRows m
  rows_are =
      let old = h.rows in
      let config = config_is in
      record {
        spaces = rows.spaces ∙ old.spaces;
        reports = rows.reports ∙ old.reports;
        references = rows.references ∙ old.references ∙ ap (λ (b : DriveConfig). 16 * b.groups) (sym config);
        going = rows.going ∙ old.going ∙ ap (λ (b : DriveConfig). b.queues + 1) (sym config);
        lost = rows.lost ∙ old.lost ∙ ap (λ (b : DriveConfig). b.groups * b.units) (sym config);
        worn = rows.worn ∙ old.worn ∙ ap (λ (b : DriveConfig). b.groups) (sym config);
        sites =
            ap (λ (x : Kept). length x.sites.rows) rest
            ∙ ap length ready.sites
            ∙ length-replicate (length k.entries.items + 1) []
            ∙ ap (λ (es : List Entry). length es + 1) (sym entries_are);
        copies =
            ap (λ (x : Kept). length x.copies.items) rest
            ∙ sym (length-map next.copies.items vec_items)
            ∙ ap length ready.copies
            ∙ length-replicate c.groups []
            ∙ ap (λ (b : DriveConfig). b.groups) (sym config);
        pages = λ queue g e. absurd (none-some g (sym (ap (λ (f : ℕ → Option Going). f queue) forgets.going) ∙ e));
      }

  -- each block is found where it stood, and each page of the drive is in its place
  known_is : KnowsFound m
  known_is nsid lba b spot there is =
      let x = found_from p nsid lba b (sym (blocks_are nsid lba) ∙ there) in
      let stands = order.standing.blocks nsid lba x.old x.there in
      let at : stands.spot ≡ x.spot = let e : Some stands.spot ≡ Some x.spot = sym stands.site ∙ x.stands in cc in
      let name : (let y : PageName = found x.spot in y) ≡ found spot = ap (λ (y : Block). y.page) x.is ∙ is in
      let same : stands.spot ≡ spot = at ∙ (let f : x.spot ≡ spot = cc in f) in
      let page = stands.page in
      ap (λ (y : Kept). table_site y (found spot)) rest
      ∙ ready.found_pages.stand spot (subst (λ (s : Spot). s.unit < c.groups * c.units) same page.0) (subst (λ (s : Spot). s.page < c.unit_pages) same page.1)
      ∙ sym (site_is (found spot))

  pub reopened : TellsHistory m
  unfolding IsLegalAfter
  reopened =
      let run : next_run ≡ run_of m = sym run_is in
      let n : ℕ = length k.entries.items in
      let legal : IsLegal true c (found_of next_run) [] = tt in
      record {
        config = subst IsValidConfig (sym config_is) h.config;
        rows = rows_are;
        starts =
            subst (λ (starts : List ℕ). AreStarts 0 starts (length m.entries.items)) (sym starts_are)
            (subst (λ (es : List Entry). AreStarts 0 (k.starts.items ++ n ∷ []) (length es)) (sym entries_are) (starts_more 0 k.starts.items n h.starts));
        begins =
            subst (λ (r : Run). BeginsInOrder r.config (found_of r)) run
            (subst (BeginsInOrder c) (sym found_is) (begins c p h.config order));
        known = known_is;
        point = point_begins ∙ ap point_in run;
        earlier = subst (λ (r : Run). AreLegalBehind r.config [] r.earlier) run (legal-more c [] (run_of k).earlier (own_entries k) h.earlier h.legal);
        legal = subst (λ (r : Run). IsLegal true r.config (found_of r) r.entries) run legal;
      }
