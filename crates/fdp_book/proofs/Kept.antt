-- What stays of the tables after an entry that changes neither a setting nor a namespace.
use Rattle.std.proofs.Common.{◌≡◌, ℕ, false, List, Option, Some, None, refl, sym, ◌∙◌, ap}
use Rattle.std.specs.Prelude.{◌==◌, IsTrue, option_map}
use Rattle.std.specs.Option.{option_map_or}
use Rattle.fdp_base.specs.declared.config.DriveConfig.{DriveConfig}
use Rattle.fdp_base.specs.CommandKinds.{nsid_of, pid_of, write_of}
use Rattle.fdp_book.specs.declared.flight.Flight.{Flight}
use Rattle.fdp_book.specs.Held.{AreFlightsOf, IsMapOf, going_of}
use Rattle.fdp_map.specs.MapTable.{MapTable}
use Rattle.fdp_rules.specs.PlainState.{Block, Going, Namespace, PlainState}
use Rattle.fdp_rules.specs.Sites.{is_there}
use Rattle.fdp_rules.specs.Step.{IsOnTarget, goes_to}
use Rattle.fdp_rules.specs.Target.{target_of}

-- the setting and the namespaces are as they were
pub record IsAlike (s n : PlainState) : Type 0 where
  pub enabled : n.enabled ≡ s.enabled
  pub index : n.index ≡ s.index
  pub generation : n.generation ≡ s.generation
  pub namespaces : n.namespaces ≡ s.namespaces

pub map-alike : (c : DriveConfig) (s n : PlainState) (x : MapTable) → IsAlike s n → n.blocks ≡ s.blocks → IsMapOf c s x → IsMapOf c n x
map-alike c s n x a blocks h = record {
  geometry = h.geometry;
  sizes = λ nsid. ap (λ (f : ℕ → Option Namespace). option_map_or (λ y. y.size) (f nsid) 0) a.namespaces ∙ h.sizes nsid;
  most = h.most;
  groups = λ nsid lba. ap (λ (f : ℕ → ℕ → Option Block). option_map (λ (b : Block). b.rg) (f nsid lba)) blocks ∙ h.groups nsid lba;
}

-- ---- going writes

-- whether the namespace of a going write is there
pub there-alike : (s t : PlainState) (g : Going) → t.namespaces ≡ s.namespaces → is_there t g ≡ is_there s g
there-alike s t g same = ap (λ (f : ℕ → Option Namespace). option_map_or (λ x. x.birth == g.birth) (f (nsid_of g.command)) false) same

-- where a write goes
target-alike : (c : DriveConfig) (s t : PlainState) (rg nsid : ℕ) (pid : Option ℕ) → t.namespaces ≡ s.namespaces → target_of c t rg nsid pid ≡ target_of c s rg nsid pid
target-alike c s t rg nsid None same = ap (λ (f : ℕ → Option Namespace). target_of c (record s { namespaces = f }) rg nsid None) same
target-alike c s t rg nsid (Some pid) same = ap (λ (f : ℕ → Option Namespace). target_of c (record s { namespaces = f }) rg nsid (Some pid)) same

option_map-same : {X Y : Type 0} (f g : X → Y) (o : Option X) → ((x : X) → f x ≡ g x) → option_map f o ≡ option_map g o
option_map-same f g None same = refl
option_map-same f g (Some x) same = ap Some (same x)

pub on_target-alike : (c : DriveConfig) (s t : PlainState) (g : Going) → t.namespaces ≡ s.namespaces → IsOnTarget c s g → IsOnTarget c t g
on_target-alike c s t g same h = option_map-same (goes_to c t g.roomiest) (goes_to c s g.roomiest) (write_of g.command) (λ w. target-alike c s t g.roomiest w.nsid (pid_of w) same) ∙ h

-- a flight goes where it was started for
pub flight-alike : (c : DriveConfig) (s n : PlainState) (f : Flight) → IsAlike s n → (IsTrue (is_there s (going_of f)) → IsOnTarget c s (going_of f)) → IsTrue (is_there n (going_of f)) → IsOnTarget c n (going_of f)
flight-alike c s n f a h there = on_target-alike c s n (going_of f) a.namespaces (h (sym (there-alike s n (going_of f) a.namespaces) ∙ there))

-- the going writes are as they were
pub flights-alike : (c : DriveConfig) (s n : PlainState) (flights : List (Option Flight)) → IsAlike s n → n.going ≡ s.going → AreFlightsOf c s flights → AreFlightsOf c n flights
flights-alike c s n flights a going h = record {
  rows = h.rows;
  going = λ k. ap (λ (f : ℕ → Option Going). f k) going ∙ h.going k;
  target = λ k f e. flight-alike c s n f a (h.target k f e);
}
