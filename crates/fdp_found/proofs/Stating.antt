-- The state in which a run over an image begins: the one that the image gives.
use Rattle.std.proofs.Common.{◌≡◌, ℕ, ◌+◌, ◌≤◌, ◌<◌, List, [], Option, Some, sym, ◌∙◌, ap, subst, arith}
use Rattle.std.specs.Prelude.{◌-◌, ◌++◌, IsTrue, drop, is_some, length, nat_le, nat_lt}
use Rattle.std.specs.Option.{option_map_or}
use Rattle.std.proofs.lemmas.Bool.{and_parts, leb-true, ltb-true}
use Rattle.std.proofs.lemmas.List.{append-nil}
use Rattle.fdp_base.specs.declared.config.DriveConfig.{DriveConfig}
use Rattle.fdp_base.specs.declared.event.Event.{Event}
use Rattle.fdp_base.specs.Placement.{geometry_of}
use Rattle.fdp_flash.specs.declared.cell.Cell.{Cell}
use Rattle.fdp_found.specs.Beginning.{CanBegin}
use Rattle.fdp_found.specs.Finding.{found_in}
use Rattle.fdp_found.proofs.Blocks.{LieWithin, blocks-found, blocks-stand}
use Rattle.fdp_found.proofs.Lists.{namespaces-found, reports-found}
use Rattle.fdp_image.specs.Areas.{current_area}
use Rattle.fdp_image.specs.CheckpointRows.{is_namespace_id}
use Rattle.fdp_image.specs.Outline.{state_with}
use Rattle.fdp_image.specs.Reading.{Reading}
use Rattle.fdp_image.specs.Reads.{reads_as}
use Rattle.fdp_image.specs.StandsFor.{IsFoundIn, StandsFor}
use Rattle.fdp_image.specs.Valid.{GoOneWay, IsValid, state_in}
use Rattle.fdp_rules.specs.Events.{kept_from, latest}
use Rattle.fdp_rules.specs.History.{controller_events_of, events_of, first_state, host_events_of, state_of, totals_of}
use Rattle.fdp_rules.specs.PlainState.{Namespace, lasting}

pub id-within : (nsid : ℕ) → IsTrue (is_namespace_id nsid) → (1 ≤ nsid) × (nsid < 17)
id-within nsid is = let a = and_parts (nat_le 1 nsid) (nat_lt nsid 17) is in (leb-true 1 nsid a.0, ltb-true nsid 17 a.1)

pub ids-within : (c : DriveConfig) (cells : List Cell) (r : Reading) → IsValid c cells r → (nsid : ℕ) (x : Namespace) → r.namespaces nsid ≡ Some x → (1 ≤ nsid) × (nsid < 17)
ids-within c cells r valid nsid x there = id-within nsid (valid.identifiers nsid x there)

pub lie-within : (c : DriveConfig) (cells : List Cell) (r : Reading) → IsValid c cells r → LieWithin r
lie-within c cells r valid = record {
  ids = λ nsid lba page there. let b = valid.blocks nsid lba page there in ids-within c cells r valid nsid b.namespace b.there;
  addresses = λ nsid lba page there. let b = valid.blocks nsid lba page there in subst (λ (o : Option Namespace). lba < option_map_or (λ (x : Namespace). x.size) o 0) (sym b.there) b.within;
}

pub state-found : (c : DriveConfig) (cells : List Cell) (r : Reading) → IsValid c cells r → CanBegin r → first_state c (found_in c cells r) ≡ state_in c cells r
unfolding first_state state_in state_with
state-found c cells r valid can = λ d. record (state_in c cells r) {
  reports = λ ruh kind. reports-found r can.handles ruh kind d;
  namespaces = λ nsid. namespaces-found r (ids-within c cells r valid) nsid d;
  blocks = λ nsid lba. blocks-found c cells r (lie-within c cells r valid) nsid lba d;
}

-- ---- events

all-latest : (xs : List Event) → length xs ≤ 32 → drop (length xs - 32) xs ≡ xs
all-latest xs few = let none : length xs - 32 ≡ 0 = omega (arith, few) in ap (λ n. drop n xs) none

latest-found : (xs : List Event) → length xs ≤ 32 → xs ≡ latest (xs ++ [])
latest-found xs few = sym (ap latest (append-nil xs) ∙ all-latest xs few)

plus-none : (n : ℕ) → n ≡ n + 0
plus-none n = omega arith

pub stands-found : (c : DriveConfig) (cells : List Cell) (r : Reading) → reads_as c cells ≡ Some r → IsValid c cells r → GoOneWay c cells r → CanBegin r → StandsFor c (found_in c cells r) cells []
unfolding state_of totals_of events_of host_events_of controller_events_of kept_from
stands-found c cells r read valid ways can = record {
  reading = r;
  read = read;
  valid = valid;
  ways = ways;
  says = record {
    shows = record {
      lasting_part = ap lasting (sym (state-found c cells r valid can));
      host_events = latest-found r.host_events can.host_events;
      controller_events = latest-found r.controller_events can.controller_events;
    };
    totals = λ d. record {
      position = plus-none r.totals.position d;
      host_blocks = plus-none r.totals.host_blocks d;
      media_blocks = plus-none r.totals.media_blocks d;
      erases = plus-none r.totals.erases d;
    };
  };
}

pub image-found : (c : DriveConfig) (cells : List Cell) (r : Reading) → reads_as c cells ≡ Some r → IsValid c cells r → GoOneWay c cells r → CanBegin r → IsTrue (is_some (current_area (geometry_of c) cells)) → IsFoundIn c cells (found_in c cells r)
unfolding stands-found
image-found c cells r read valid ways can sealed = record {
  stands = stands-found c cells r read valid ways can;
  spots = blocks-stand c cells r;
  is_image = sym sealed;
}
