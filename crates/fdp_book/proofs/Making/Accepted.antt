-- What is known of a command that may take effect.
use Rattle.std.proofs.Common.{◌≡◌, ℕ, zero, suc, ◌<◌, ◌≤◌, false, List, [], ◌∷◌, length, Option, Some, None, refl, sym, subst, arith}
use Rattle.std.specs.Prelude.{All, is_none, nat_le, unwrap_or, slice_get, slice_index}
use Rattle.std.proofs.lemmas.Bool.{leb-false, ltb-false, or_parts}
use Rattle.std.proofs.lemmas.List.Elements.{All-cons, All-head, All-nil, All-tail}
use Rattle.fdp_base.specs.declared.command.Command.TheVariants as commands
use Rattle.fdp_base.specs.declared.command.Create.{Create}
use Rattle.fdp_base.specs.declared.command.Dealloc.{Dealloc}
use Rattle.fdp_base.specs.declared.command.HandleUpdate.{HandleUpdate}
use Rattle.fdp_base.specs.declared.config.DriveConfig.{DriveConfig}
use Rattle.fdp_base.specs.Config.{IsValidConfig}
use Rattle.fdp_base.specs.Geometry.{IsWithin}
use Rattle.fdp_history.specs.OrderlyState.{IsOrderlyState}
use Rattle.fdp_history.proofs.Bounds.{handles-in_force}
use Rattle.fdp_history.proofs.Checks.{IsAcceptedCreate, accepted-create, passes}
use Rattle.fdp_history.proofs.Spaces.{free-is}
use Rattle.fdp_rules.specs.Effect.{chosen_handles, lowest_free}
use Rattle.fdp_rules.specs.PlainState.{Namespace, PlainState}
use Rattle.fdp_rules.specs.Point.{Point}
use Rattle.fdp_rules.specs.Refusal.{checks_of, refusal_of}
use Rattle.fdp_rules.specs.Room.{handles_in_force}

-- a deallocation has at most sixteen ranges
pub few-ranges : (c : DriveConfig) (p : Point) (d : Dealloc) → refusal_of c p (commands.Dealloc d) ≡ None → length d.ranges ≤ 16
unfolding checks_of
few-ranges c p d e = let held = passes c p (commands.Dealloc d) e in ltb-false 16 (length d.ranges) held.1.0

-- an update at most 64 identifiers
pub few-pids : (c : DriveConfig) (p : Point) (u : HandleUpdate) → refusal_of c p (commands.Update u) ≡ None → length u.pids ≤ 64
unfolding checks_of
few-pids c p u e = let held = passes c p (commands.Update u) e in ltb-false 64 (length u.pids) (or_parts _ _ held.1.0).1

some-namespace : (o : Option Namespace) → is_none o ≡ false → (n : Namespace) × (o ≡ Some n)
some-namespace None e = absurd cc
some-namespace (Some n) e = (n, refl)

all-low : (bound : ℕ) (list : List ℕ) → bound ≤ 16 → All (λ ruh. nat_le bound ruh ≡ false) list → All (λ ruh. ruh < 16) list
all-low bound [] few h = All-nil (λ ruh. ruh < 16)
all-low bound (x ∷ xs) few h =
    let low : x < bound = leb-false bound x (All-head (λ ruh. nat_le bound ruh ≡ false) x xs h) in
    All-cons (λ ruh. ruh < 16) x xs (omega (arith, low, few)) (all-low bound xs few (All-tail (λ ruh. nat_le bound ruh ≡ false) x xs h))

-- a create names an identifier that is free, and few handles, each one of sixteen
pub record IsCreatable (s : PlainState) (x : Create) : Type 0 where
  pub size : 0 < x.size
  pub few : length x.list ≤ 16
  pub low : All (λ ruh. ruh < 16) x.list
  pub nsid : IsWithin 1 16 (unwrap_or (lowest_free s) 0)
  pub free : s.namespaces (unwrap_or (lowest_free s) 0) ≡ None

pub creatable : (c : DriveConfig) (p : Point) (x : Create) → IsValidConfig c → IsOrderlyState c p.state → refusal_of c p (commands.Create x) ≡ None → IsCreatable p.state x
creatable c p x valid orderly e =
    let held : IsAcceptedCreate c p.state x.size x.list = accepted-create c p x.size x.given x.list e in
    let free = free-is p.state held.free in
    record {
      size = omega (arith, held.size_is);
      few = held.number;
      low = all-low (handles_in_force c p.state) x.list (handles-in_force c p.state valid orderly).1 held.handles;
      nsid = subst (λ (o : Option ℕ). IsWithin 1 16 (unwrap_or o 0)) (sym free.1) free.3;
      free = subst (λ (o : Option ℕ). p.state.namespaces (unwrap_or o 0) ≡ None) (sym free.1) free.2;
    }

-- the handles that a namespace gets are one to sixteen
pub chosen-few : (list : List ℕ) → length list ≤ 16 → IsWithin 1 16 (length (chosen_handles list))
chosen-few [] few = (omega arith, omega arith)
chosen-few (x ∷ xs) few = (omega arith, few)

-- an element of a list, or 0
pub index-or-none : (xs : List ℕ) (i : ℕ) → unwrap_or (slice_get xs i) 0 ≡ slice_index xs i
index-or-none [] i = refl
index-or-none (x ∷ xs) zero = refl
index-or-none (x ∷ xs) (suc i) = index-or-none xs i
