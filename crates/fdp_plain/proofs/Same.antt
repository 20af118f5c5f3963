-- Lists that have other spare room say the same.
use Rattle.std.proofs.Common.{◌≡◌, ℕ, true, not, List, [], length, None, Some, refl, sym, ◌∙◌, ap, subst, map, reverse, drop}
use Rattle.std.specs.Prelude.{◌==◌, ◌&&◌, filter, nat_lt, option_map, slice_get}
use Rattle.std.specs.Option.{option_map_or}
use Rattle.std.specs.Vec.{vec_items}
use Rattle.std.proofs.lemmas.List.{length-map}
use Rattle.std.proofs.lemmas.Option.{slice_get-map}
use Rattle.fdp_base.specs.declared.config.DriveConfig.{DriveConfig}
use Rattle.fdp_base.specs.declared.entry.Entry.{Entry}
use Rattle.fdp_base.specs.declared.entry.Spot.{Spot}
use Rattle.fdp_base.specs.declared.event.Event.{Event}
use Rattle.fdp_rules.specs.Events.{is_host_event, latest}
use Rattle.fdp_rules.specs.Legal.{IsLegal}
use Rattle.fdp_base.specs.Config.{IsValidConfig}
use Rattle.fdp_rules.specs.PlainState.{PageName, PageName.found, PageName.written, PlainState}
use Rattle.fdp_rules.specs.Point.{Point}
use Rattle.fdp_rules.specs.Sites.{trail_of}
use Rattle.fdp_rules.specs.Step.{Follows}
use Rattle.fdp_tables.specs.declared.state.Kept.{Kept}
use Rattle.fdp_tables.specs.Copies.{copy_of}
use Rattle.fdp_tables.specs.PageSites.{site_in}
use Rattle.fdp_tables.specs.Sound.{KnowsFound}
use Rattle.fdp_tables.specs.Starts.{AreStarts, cut, start_of}
use Rattle.fdp_tables.specs.State.{copies_at, is_opening, own_entries, plain_of, point_kept, site_at, table_site}
use Rattle.fdp_plain.specs.Reserved.{IsSame}
use Rattle.fdp_plain.specs.Rows.{HasRows}
use Rattle.fdp_plain.specs.Found.{BeginsInOrder}
use Rattle.fdp_plain.specs.Run.{AreLegalBehind, Run, found_of, point_in}
use Rattle.fdp_plain.specs.Telling.{TellsHistory, run_of}

-- a page stands where it stood by the same rows, configuration and entries
pub same_site : (k m : Kept) → m.sites.rows ≡ k.sites.rows → m.config ≡ k.config → own_entries m ≡ own_entries k → (name : PageName) → site_at m name ≡ site_at k name
same_site k m sites config entries (written ticket index) = ap (λ rows. site_in rows ticket index) sites
same_site k m sites config entries (found spot) =
    ap (λ (c : DriveConfig). (trail_of c (own_entries m)).site (found spot)) config
    ∙ ap (λ (es : List Entry). (trail_of k.config es).site (found spot)) entries

-- the copies of a group, by the lists of all groups
pub copies_read : {V : Type 0} (read : V → List (Spot × Spot)) (vs : List V) (rg : ℕ) → option_map_or (λ v. map copy_of (read v)) (slice_get vs rg) [] ≡ option_map_or (λ xs. map copy_of xs) (slice_get (map read vs) rg) []
copies_read read vs rg =
    elim (slice_get vs rg) as (λ o. option_map_or (λ v. map copy_of (read v)) o [] ≡ option_map_or (λ xs. map copy_of xs) (option_map read o) []) [ None ↦ refl | Some v ↦ refl ]
    ∙ ap (λ o. option_map_or (λ (xs : List (Spot × Spot)). map copy_of xs) o []) (sym (slice_get-map read vs rg))

-- the copies of each group by the same lists
pub same_copies : (k m : Kept) → map vec_items m.copies.items ≡ map vec_items k.copies.items → (rg : ℕ) → copies_at m rg ≡ copies_at k rg
same_copies k m same rg =
    copies_read vec_items m.copies.items rg
    ∙ ap (λ (rows : List (List (Spot × Spot))). option_map_or (λ xs. map copy_of xs) (slice_get rows rg) []) same
    ∙ sym (copies_read vec_items k.copies.items rg)

module _ (k m : Kept) (h : IsSame k m) where
  same_config : m.config ≡ k.config
  same_config = ap (λ (x : Kept). x.config) h.rest

  same_starts : m.starts.items ≡ k.starts.items
  same_starts = ap (λ (x : Kept). x.starts.items) h.rest

  -- the run is that of before
  pub same_run : run_of m ≡ run_of k
  same_run =
      let run : List ℕ → DriveConfig → List Entry → Run = λ starts b es. record { config = b; earlier = cut 0 starts es; entries = drop (start_of starts) es } in
      ap (λ (starts : List ℕ). run starts m.config m.entries.items) same_starts
      ∙ ap (λ (b : DriveConfig). run k.starts.items b m.entries.items) same_config
      ∙ ap (λ (es : List Entry). run k.starts.items k.config es) h.entries

  same_own : own_entries m ≡ own_entries k
  same_own = ap (λ (r : Run). r.entries) same_run

  same_opening : is_opening m ≡ is_opening k
  same_opening =
      ap (λ (starts : List ℕ). nat_lt 0 (length starts) && (length (own_entries m) == 0)) same_starts
      ∙ ap (λ (es : List Entry). nat_lt 0 (length k.starts.items) && (length es == 0)) same_own

  -- the state is that of before
  pub same_state : plain_of m ≡ plain_of k
  same_state =
      ap plain_of h.rest
      ∙ ap (λ (es : List Entry). let s : PlainState = record (plain_of k) { position = length es; media = reverse m.media.items } in s) h.entries
      ∙ ap (λ (moments : List ℕ). let s : PlainState = record (plain_of k) { media = reverse moments } in s) h.media

  -- all that stands is that of before
  pub same_point : point_kept m ≡ point_kept k
  same_point =
      let state = same_state in
      let opening = same_opening in
      let site : site_at m ≡ site_at k = λ d name. same_site k m h.sites same_config same_own name d in
      let copies : copies_at m ≡ copies_at k = λ d rg. same_copies k m h.copies rg d in
      let hosts : m.host_blocks ≡ k.host_blocks = ap (λ (x : Kept). x.host_blocks) h.rest in
      let media : m.media_blocks ≡ k.media_blocks = ap (λ (x : Kept). x.media_blocks) h.rest in
      let erased : m.erases ≡ k.erases = ap (λ (x : Kept). x.erases) h.rest in
      let count = ap length h.entries in
      let host_class = ap (λ (es : List Event). latest (filter is_host_event es)) h.events in
      let other_class = ap (λ (es : List Event). latest (filter (λ x. not (is_host_event x)) es)) h.events in
      λ d. record {
        is_opening = opening d;
        state = state d;
        trail = record { site = site d; copies = copies d };
        totals = record { position = count d; host_blocks = hosts d; media_blocks = media d; erases = erased d };
        host_events = host_class d;
        controller_events = other_class d;
      }

  -- what may follow is what may follow before
  pub same_follows : (e : Entry) → Follows true k.config (point_kept k) e → Follows true m.config (point_kept m) e
  same_follows e f =
      subst (λ (c : DriveConfig). Follows true c (point_kept m) e) (sym same_config) (subst (λ (p : Point). Follows true k.config p e) (sym same_point) f)

  same_rows_there : HasRows k → HasRows m
  same_rows_there rows =
      let now : Kept = record k { entries = m.entries; media = m.media; sites = m.sites; copies = m.copies; events = m.events } in
      let there : HasRows now = record {
        spaces = rows.spaces;
        reports = rows.reports;
        references = rows.references;
        going = rows.going;
        lost = rows.lost;
        worn = rows.worn;
        sites = rw (h.sites, h.entries) rows.sites;
        copies = sym (length-map m.copies.items vec_items) ∙ ap length h.copies ∙ length-map k.copies.items vec_items ∙ rows.copies;
        pages = λ queue g e. ap (λ sites. option_map (λ pages. length pages) (slice_get sites g.ticket)) h.sites ∙ rows.pages queue g e;
      } in
      subst HasRows (sym h.rest) there

  same_known : KnowsFound k → KnowsFound m
  same_known known = λ nsid lba b spot there is.
      ap (λ (x : Kept). table_site x (found spot)) h.rest
      ∙ known nsid lba b spot (sym (ap (λ (s : PlainState). s.blocks nsid lba) same_state) ∙ there) is
      ∙ sym (same_site k m h.sites same_config same_own (found spot))

  -- the tables still say what stands after the entries
  pub same_history : TellsHistory k → TellsHistory m
  same_history history =
      let run : run_of k ≡ run_of m = sym same_run in
      record {
        config = subst IsValidConfig (sym same_config) history.config;
        rows = same_rows_there history.rows;
        starts = subst (λ (starts : List ℕ). AreStarts 0 starts (length m.entries.items)) (sym same_starts) (subst (λ (es : List Entry). AreStarts 0 k.starts.items (length es)) (sym h.entries) history.starts);
        begins = subst (λ (r : Run). BeginsInOrder r.config (found_of r)) run history.begins;
        known = same_known history.known;
        point = same_point ∙ history.point ∙ ap point_in run;
        earlier = subst (λ (r : Run). AreLegalBehind r.config [] r.earlier) run history.earlier;
        legal = subst (λ (r : Run). IsLegal true r.config (found_of r) r.entries) run history.legal;
      }
