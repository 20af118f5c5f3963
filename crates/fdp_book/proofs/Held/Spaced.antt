-- What stays where another namespace stands under an identifier, or none: the going writes that do not see it, and where they go.
use Rattle.std.proofs.Common.{◌≡◌, ◌≢◌, ⊎_elim, ℕ, Bool, true, false, List, [], Option, Some, None, refl, sym, ◌∙◌, ap, eq-eqb, ne_eqb, slice_get}
use Rattle.std.specs.Prelude.{◌==◌, if◌then◌else◌, nat_lt, option_map, slice_index, unwrap_or}
use Rattle.std.specs.Option.{option_map_or}
use Rattle.std.proofs.lemmas.Bool.{cases_eq, false≢true}
use Rattle.fdp_base.specs.declared.command.Command.{Command}
use Rattle.fdp_base.specs.declared.command.Write.{Write}
use Rattle.fdp_base.specs.declared.config.DriveConfig.{DriveConfig}
use Rattle.fdp_base.specs.CommandKinds.{nsid_of, pid_of, write_of}
use Rattle.fdp_base.specs.Numbers.{with_at}
use Rattle.fdp_base.proofs.Writes.{write-is}
use Rattle.fdp_book.specs.declared.flight.Flight.{Flight}
use Rattle.fdp_book.specs.Held.{AreFlightsOf, flight_in, going_of, page_in}
use Rattle.fdp_rules.specs.PlainState.{Going, Namespace, PlainState}
use Rattle.fdp_rules.specs.Sites.{is_there}
use Rattle.fdp_rules.specs.Step.{IsOnTarget, goes_to}
use Rattle.fdp_rules.specs.Target.{group_of_pid, handle_of_pid, target_of}

-- ---- one identifier and the others

-- a word of what stands under an identifier
pub at-read : {X Y : Type 0} (f : X → Y) (table : ℕ → X) (place : ℕ) (value : X) (i : ℕ) → f (with_at table place value i) ≡ with_at (λ k. f (table k)) place (f value) i
at-read f table place value i = by (i == place)
  where
    by : (b : Bool) → f (if b then value else table i) ≡ (if b then f value else f (table i))
    by true = refl
    by false = refl

-- ---- where a write goes

target-at : (c : DriveConfig) (s n : PlainState) (rg nsid : ℕ) (pid : Option ℕ) → n.namespaces nsid ≡ s.namespaces nsid → target_of c n rg nsid pid ≡ target_of c s rg nsid pid
target-at c s n rg nsid None same = ap (λ (o : Option Namespace). record { rg = rg; ruh = slice_index (option_map_or (λ (x : Namespace). x.handles) o []) 0; valid = true }) same
target-at c s n rg nsid (Some pid) same =
    ap (λ (o : Option Namespace). unwrap_or (if nat_lt (group_of_pid c pid) c.groups then option_map (λ ruh. record { rg = group_of_pid c pid; ruh = ruh; valid = true }) (slice_get (option_map_or (λ (x : Namespace). x.handles) o []) (handle_of_pid c pid)) else None) (record { rg = rg; ruh = slice_index (option_map_or (λ (x : Namespace). x.handles) o []) 0; valid = false })) same

goes-at : (c : DriveConfig) (s n : PlainState) (rg : ℕ) (command : Command) (o : Option Write) → write_of command ≡ o → n.namespaces (nsid_of command) ≡ s.namespaces (nsid_of command) → option_map (goes_to c n rg) o ≡ option_map (goes_to c s rg) o
goes-at c s n rg command None is same = refl
goes-at c s n rg command (Some w) is same =
    let nsid : nsid_of command ≡ w.nsid = ap nsid_of (write-is command w is) in
    ap Some (target-at c s n rg w.nsid (pid_of w) (sym (ap n.namespaces nsid) ∙ same ∙ ap s.namespaces nsid))

on_target-at : (c : DriveConfig) (s n : PlainState) (g : Going) → n.namespaces (nsid_of g.command) ≡ s.namespaces (nsid_of g.command) → IsOnTarget c s g → IsOnTarget c n g
on_target-at c s n g same h = goes-at c s n g.roomiest g.command (write_of g.command) refl same ∙ h

there-at : (s n : PlainState) (g : Going) → n.namespaces (nsid_of g.command) ≡ s.namespaces (nsid_of g.command) → is_there n g ≡ is_there s g
there-at s n g same = ap (λ (o : Option Namespace). option_map_or (λ (x : Namespace). x.birth == g.birth) o false) same

-- ---- the going writes

-- no write that is going saw what stands under the identifier now
abbrev pub Unseen : Option Namespace → List (Option Flight) → ℕ → Type 0
Unseen o flights nsid = (queue : ℕ) (f : Flight) → flight_in flights queue ≡ Some f → nsid_of f.room.command ≡ nsid → option_map_or (λ (x : Namespace). x.birth == f.birth) o false ≡ false

-- the namespace of a write is there, where it is another than that one; else it is not
pub there-put : (s n : PlainState) (nsid : ℕ) (o : Option Namespace) (f : Flight) → n.namespaces ≡ with_at s.namespaces nsid o → (nsid_of f.room.command ≡ nsid → option_map_or (λ (x : Namespace). x.birth == f.birth) o false ≡ false) → (nsid_of f.room.command ≡ nsid → is_there n (going_of f) ≡ false) × (nsid_of f.room.command ≢ nsid → n.namespaces (nsid_of f.room.command) ≡ s.namespaces (nsid_of f.room.command))
there-put s n nsid o f is unseen = (
  λ own.
      ap (λ (g : ℕ → Option Namespace). option_map_or (λ (x : Namespace). x.birth == f.birth) (g (nsid_of f.room.command)) false) is
      ∙ ap (λ (b : Bool). option_map_or (λ (x : Namespace). x.birth == f.birth) (if b then o else s.namespaces (nsid_of f.room.command)) false) (eq-eqb (nsid_of f.room.command) nsid own)
      ∙ unseen own,
  λ ne. ap (λ (g : ℕ → Option Namespace). g (nsid_of f.room.command)) is ∙ ap (λ (b : Bool). if b then o else s.namespaces (nsid_of f.room.command)) (ne_eqb (nsid_of f.room.command) nsid ne),
)

pub flights-put : (c : DriveConfig) (s n : PlainState) (flights : List (Option Flight)) (nsid : ℕ) (o : Option Namespace) → n.namespaces ≡ with_at s.namespaces nsid o → n.going ≡ s.going → Unseen o flights nsid → AreFlightsOf c s flights → AreFlightsOf c n flights
flights-put c s n flights nsid o is going unseen h = record {
  rows = h.rows;
  going = λ k. ap (λ (f : ℕ → Option Going). f k) going ∙ h.going k;
  target = λ k f e there.
      let put = there-put s n nsid o f is (unseen k f e) in
      ⊎_elim
      (λ (own : nsid_of f.room.command ≡ nsid). absurd (false≢true (sym (put.0 own) ∙ there)))
      (λ (ne : nsid_of f.room.command ≢ nsid). on_target-at c s n (going_of f) (put.1 ne) (h.target k f e (sym (there-at s n (going_of f) (put.1 ne)) ∙ there)))
      (cases_eq (nsid_of f.room.command) nsid);
}

-- a page of a write that does not see the identifier
pub page-other : (s n : PlainState) (nsid index : ℕ) (o : Option Namespace) (f : Flight) → n.namespaces ≡ with_at s.namespaces nsid o → nsid_of f.room.command ≢ nsid → page_in n index f ≡ page_in s index f
page-other s n nsid index o f is ne =
    let same : n.namespaces (nsid_of f.room.command) ≡ s.namespaces (nsid_of f.room.command) = ap (λ (g : ℕ → Option Namespace). g (nsid_of f.room.command)) is ∙ ap (λ (b : Bool). if b then o else s.namespaces (nsid_of f.room.command)) (ne_eqb (nsid_of f.room.command) nsid ne) in
    ap (λ (b : Bool). if b then slice_get f.pages.items index else None) (there-at s n (going_of f) same)

-- and of one whose namespace is not there
pub page-gone : (n : PlainState) (index : ℕ) (f : Flight) → is_there n (going_of f) ≡ false → page_in n index f ≡ None
page-gone n index f gone = ap (λ (b : Bool). if b then slice_get f.pages.items index else None) gone
