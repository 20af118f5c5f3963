-- A run that goes on where another stood begins in order, with what lasts of it.
use Rattle.std.proofs.Common.{◌≡◌, ℕ, ◌+◌, ◌≤◌, ◌<◌, true, false, List, [], Option, Some, None, refl, sym, ◌∙◌, ap, arith, subst}
use Rattle.std.specs.Prelude.{◌++◌, filter, not, option_and_then, option_map}
use Rattle.std.proofs.lemmas.List.{append-nil}
use Rattle.std.proofs.lemmas.List.Elements.{All-nil}
use Rattle.fdp_base.specs.declared.config.DriveConfig.{DriveConfig}
use Rattle.fdp_base.specs.declared.entry.Entry.{Entry}
use Rattle.fdp_base.specs.declared.entry.Spot.{Spot}
use Rattle.fdp_base.specs.declared.event.Event.{Event}
use Rattle.fdp_base.specs.Config.{IsValidConfig}
use Rattle.fdp_rules.specs.Effect.{no_reference}
use Rattle.fdp_rules.specs.Events.{is_host_event, kept_from, latest}
use Rattle.fdp_rules.specs.History.{Found, controller_events_of, events_of, first_state, found_block, host_events_of, point_of, state_of, totals_of}
use Rattle.fdp_rules.specs.PlainState.{Block, Namespace, PageName, PageName.found, PageName.written, PlainState, content_of, lasting}
use Rattle.fdp_rules.specs.Point.{Point}
use Rattle.fdp_rules.specs.Legal.{IsLegal}
use Rattle.fdp_rules.specs.Sites.{first_trail, group_of, trail_of}
use Rattle.fdp_rules.specs.Step.{IsPage}
use Rattle.fdp_rules.proofs.Pushes.{latest-append}
use Rattle.fdp_history.specs.Orderly.{IsOrderly, IsOrderlyCopy}
use Rattle.fdp_history.specs.OrderlyState.{IsOrderlyBlock, IsOrderlyState}
use Rattle.fdp_history.specs.Standing.{IsBlockStanding, IsStanding}
use Rattle.fdp_history.specs.Summed.{IsSummed}
use Rattle.fdp_history.proofs.Changed.{block-as, namespace-as}
use Rattle.fdp_history.proofs.References.{no_reference-orderly}
use Rattle.fdp_history.proofs.Spaces.{no-blocks}
use Rattle.fdp_plain.specs.Found.{BeginsInOrder, GoesOn, StandsInOrder, block_as, block_found, found_after, found_at}
use Rattle.fdp_plain.proofs.Blocks.{LieWithin, blocks-found}
use Rattle.fdp_plain.proofs.Lists.{namespaces-found, reports-found}
use Rattle.fdp_plain.proofs.Ordering.{in_order_legal}

-- the state with which a run begins that goes on where this stands
abbrev pub opened : DriveConfig → Point → PlainState
opened c p = record p.state {
  position = p.totals.position;
  blocks = λ nsid lba. option_map found_block (block_found p nsid lba);
  references = λ rg ruh. no_reference c;
  going = λ queue. None;
  is_lost = λ unit. false;
  is_worn = λ rg. false;
  media = [];
}

-- what stands then
abbrev pub opened_point : DriveConfig → Point → Point
opened_point c p = record {
  is_opening = true;
  state = opened c p;
  trail = first_trail;
  totals = p.totals;
  host_events = latest (p.host_events ++ []);
  controller_events = latest (p.controller_events ++ []);
}

plus_none : (n : ℕ) → n + 0 ≡ n
plus_none n = omega arith

-- the latest events are the latest of themselves
pub events_again : (es : List Event) → latest (latest es ++ []) ≡ latest es
events_again es = sym (latest-append es []) ∙ ap latest (append-nil es)

-- ---- one block

-- a block that stands at a spot is found there
pub found_standing : (p : Point) (nsid lba : ℕ) (b : Block) (spot : Spot) → p.state.blocks nsid lba ≡ Some b → p.trail.site b.page ≡ Some spot
    → option_map found_block (block_found p nsid lba) ≡ Some (record { bytes = b.bytes; rg = b.rg; ruh = b.ruh; page = found spot })
found_standing p nsid lba b spot there stands =
    ap (λ o. option_map found_block (option_and_then (λ (x : Block). option_map (block_as nsid lba x) (p.trail.site x.page)) o)) there
    ∙ ap (λ o. option_map found_block (option_map (block_as nsid lba b) o)) stands

pub found_absent : (p : Point) (nsid lba : ℕ) → p.state.blocks nsid lba ≡ None → option_map found_block (block_found p nsid lba) ≡ None
found_absent p nsid lba none = ap (λ o. option_map found_block (option_and_then (λ (x : Block). option_map (block_as nsid lba x) (p.trail.site x.page)) o)) none

-- a block of the run is one that stood
pub record IsFrom (p : Point) (nsid lba : ℕ) (b : Block) : Type 0 where
  pub old : Block
  pub there : p.state.blocks nsid lba ≡ Some old
  pub spot : Spot
  pub stands : p.trail.site old.page ≡ Some spot
  pub is : record { bytes = old.bytes; rg = old.rg; ruh = old.ruh; page = found spot } ≡ b

from_spot : (p : Point) (nsid lba : ℕ) (old b : Block) → p.state.blocks nsid lba ≡ Some old → (o : Option Spot) → p.trail.site old.page ≡ o → option_map found_block (option_map (block_as nsid lba old) o) ≡ Some b → IsFrom p nsid lba b
from_spot p nsid lba old b there None stands e = absurd cc
from_spot p nsid lba old b there (Some spot) stands e =
    let new : Block = record { bytes = old.bytes; rg = old.rg; ruh = old.ruh; page = found spot } in
    let is : new ≡ b = cc in
    record { old = old; there = there; spot = spot; stands = stands; is = is }

pub found_from : (p : Point) (nsid lba : ℕ) (b : Block) → option_map found_block (block_found p nsid lba) ≡ Some b → IsFrom p nsid lba b
found_from p nsid lba b e =
    let P : Option Block → Type 0 = λ o. p.state.blocks nsid lba ≡ o → option_map found_block (option_and_then (λ (x : Block). option_map (block_as nsid lba x) (p.trail.site x.page)) o) ≡ Some b → IsFrom p nsid lba b in
    elim (p.state.blocks nsid lba) as P [
      | None ↦ λ there none. absurd cc
      | Some old ↦ λ there some. from_spot p nsid lba old b there (p.trail.site old.page) refl some
    ] refl e

written_not_found : (ticket index : ℕ) (spot : Spot) → (let name : PageName = found spot in name) ≡ written ticket index → ⊥
written_not_found ticket index spot e = absurd cc

-- ---- all that stands

module _ (c : DriveConfig) (p : Point) (valid : IsValidConfig c) (h : StandsInOrder c p) where
  orderly : IsOrderly c p
  orderly = h.orderly

  within : LieWithin p
  within = record {
    ids = λ nsid lba b there.
        let P : Option Namespace → Type 0 = λ o. p.state.namespaces nsid ≡ o → (1 ≤ nsid) × (nsid < 17) in
        (elim (p.state.namespaces nsid) as P [
          | None ↦ λ none. absurd (no-blocks c p.state orderly.state nsid lba b there none)
          | Some n ↦ λ some. let id = (orderly.state.namespaces nsid n some).identifier in (id.0, omega (arith, id.1))
        ]) refl;
    addresses = λ nsid lba b there. (orderly.state.blocks nsid lba b there).address;
  }

  -- the state with which the run begins
  pub state_is : first_state c (found_at p) ≡ opened c p
  unfolding first_state found_at
  state_is = λ d. record (opened c p) {
    reports = λ ruh kind. reports-found p.state h.reports ruh kind d;
    namespaces = λ nsid. namespaces-found p.state (λ n x there. let id = (orderly.state.namespaces n x there).identifier in (id.0, omega (arith, id.1))) nsid d;
    blocks = λ nsid lba. blocks-found p within nsid lba d;
  }

  -- all that stands then
  pub opened_is : point_of c (found_at p) [] ≡ opened_point c p
  unfolding point_of state_of totals_of events_of host_events_of controller_events_of trail_of kept_from found_at
  opened_is = λ d. record (opened_point c p) {
    state = state_is d;
    totals = record {
      position = plus_none p.totals.position d;
      host_blocks = plus_none p.totals.host_blocks d;
      media_blocks = plus_none p.totals.media_blocks d;
      erases = plus_none p.totals.erases d;
    };
  }

  state_orderly : IsOrderlyState c (opened c p)
  state_orderly =
      let s = p.state in
      let t = opened c p in
      let later : s.position ≤ t.position = omega (arith, orderly.positions) in
      record {
        index = orderly.state.index;
        generation = omega (arith, orderly.state.generation, orderly.positions);
        namespaces = λ nsid n there. namespace-as c s t nsid n refl later (orderly.state.namespaces nsid n there);
        writes = λ queue g none. absurd cc;
        tickets = λ a b g h none other same. absurd cc;
        blocks = λ nsid lba b there.
            let x = found_from p nsid lba b there in
            let old : IsOrderlyBlock c t nsid lba x.old = block-as c s t nsid lba x.old refl refl (orderly.state.blocks nsid lba x.old x.there) in
            subst (IsOrderlyBlock c t nsid lba) x.is (record { address = old.address; group = old.group; handle = old.handle; bytes = old.bytes });
        references = λ rg ruh. no_reference-orderly c t rg valid;
        units = λ rg ruh other_rg other_ruh unit none other. absurd cc;
        media = omega arith;
      }

  point_orderly : IsOrderly c (opened_point c p)
  point_orderly = record {
    state = state_orderly;
    positions = refl;
    sites = λ ticket index spot none. absurd cc;
    copies = λ rg. All-nil (IsOrderlyCopy c rg);
  }

  point_standing : IsStanding c (opened_point c p)
  point_standing = record {
    blocks = λ nsid lba b there.
        let x = found_from p nsid lba b there in
        let old = h.standing.blocks nsid lba x.old x.there in
        let same : old.spot ≡ x.spot = let e : Some old.spot ≡ Some x.spot = sym old.site ∙ x.stands in cc in
        let new : Block = record { bytes = x.old.bytes; rg = x.old.rg; ruh = x.old.ruh; page = found x.spot } in
        let stands : IsBlockStanding c (opened_point c p) new = record {
          spot = x.spot;
          site = refl;
          page = subst (IsPage c) same old.page;
          group = subst (λ (spot : Spot). group_of c spot.unit ≡ x.old.rg) same old.group;
          since = λ ticket index is. absurd (written_not_found ticket index x.spot is);
          ended = λ ticket index queue g is there. absurd (written_not_found ticket index x.spot is);
        } in
        subst (IsBlockStanding c (opened_point c p)) x.is stands;
    writes = λ queue index g spot none site. absurd cc;
  }

  point_summed : IsSummed (opened_point c p)
  point_summed = record { host_blocks = h.summed.host_blocks; media_blocks = h.summed.media_blocks; erases = h.summed.erases }

  point_in_order : StandsInOrder c (opened_point c p)
  point_in_order = record { orderly = point_orderly; standing = point_standing; summed = point_summed; reports = h.reports }

  -- the run begins in order
  pub begins : BeginsInOrder c (found_at p)
  begins = subst (StandsInOrder c) (sym opened_is) point_in_order

  content_is : (nsid lba : ℕ) → option_map content_of (option_map found_block (block_found p nsid lba)) ≡ option_map content_of (p.state.blocks nsid lba)
  content_is nsid lba =
      let P : Option Block → Type 0 = λ o. p.state.blocks nsid lba ≡ o → option_map content_of (option_map found_block (block_found p nsid lba)) ≡ option_map content_of o in
      (elim (p.state.blocks nsid lba) as P [
        | None ↦ λ none. ap (option_map content_of) (found_absent p nsid lba none)
        | Some b ↦ λ there. let x = h.standing.blocks nsid lba b there in ap (option_map content_of) (found_standing p nsid lba b x.spot there x.site)
      ]) refl

  -- with what lasts
  pub lasting_is : lasting (first_state c (found_at p)) ≡ lasting p.state
  lasting_is =
      ap lasting state_is
      ∙ (λ d. record (lasting p.state) { blocks = λ nsid lba. content_is nsid lba d })

-- a run goes on after these entries of the one before it
going_on : (c : DriveConfig) (f : Found) (es : List Entry) → IsValidConfig c → StandsInOrder c (point_of c f es) → GoesOn c f es (found_after c f es)
unfolding found_at point_of host_events_of controller_events_of events_of kept_from totals_of
going_on c f es valid h = record {
  lasting_part = lasting_is c (point_of c f es) valid h;
  totals = λ d. record {
    position = plus_none (totals_of f es).position d;
    host_blocks = plus_none (totals_of f es).host_blocks d;
    media_blocks = plus_none (totals_of f es).media_blocks d;
    erases = plus_none (totals_of f es).erases d;
  };
  host_events = events_again (f.host_events ++ filter is_host_event (events_of c f es));
  controller_events = events_again (f.controller_events ++ filter (λ e. not (is_host_event e)) (events_of c f es));
}

pub goes_on : (c : DriveConfig) (f : Found) (es : List Entry) → IsValidConfig c → BeginsInOrder c f → IsLegal true c f es → GoesOn c f es (found_after c f es)
goes_on c f es valid begin legal = going_on c f es valid (in_order_legal c f es valid begin legal)

pub begins_again : (c : DriveConfig) (f : Found) (es : List Entry) → IsValidConfig c → BeginsInOrder c f → IsLegal true c f es → BeginsInOrder c (found_after c f es)
begins_again c f es valid begin legal = begins c (point_of c f es) valid (in_order_legal c f es valid begin legal)
