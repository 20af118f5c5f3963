-- Updates of handles, one after another.
use Rattle.std.proofs.Common.{◌≡◌, ℕ, ◌<◌, Bool, true, false, List, [], ◌∷◌, ◌++◌, length, slice_get, Option, Some, None, refl, sym, ◌∙◌, ap, subst, arith}
use Rattle.std.specs.Prelude.{Contains, fold, if◌then◌else◌, nat_lt, option_map}
use Rattle.std.specs.Option.{option_map_or}
use Rattle.std.proofs.lemmas.Bool.{ltb-true}
use Rattle.std.proofs.lemmas.List.Elements.{Contains-get_or}
use Rattle.std.proofs.lemmas.List.Sums.{fold-append}
use Rattle.std.proofs.lemmas.Option.{get_or_from_slice_get, slice_get_within}
use Rattle.fdp_base.specs.declared.config.DriveConfig.{DriveConfig}
use Rattle.fdp_book.specs.declared.tables.Tables.{Tables}
use Rattle.fdp_book.specs.Updating.{CanUpdate, Updates}
use Rattle.fdp_handles.specs.HandleTable.{HandleTable, reference_at}
use Rattle.fdp_outline.specs.Handles.{handles_at, named_in, named_target}
use Rattle.fdp_readings.specs.fdp_pages.PageTables.{PageTables}
use Rattle.fdp_readings.specs.fdp_pages.Steps.{UpdatesHandle}
use Rattle.fdp_readings.proofs.fdp_pages.LeftUnits.{leaves-none, leaves-on}
use Rattle.fdp_rules.specs.Effect.{References, updated_at, updated_by}
use Rattle.fdp_rules.specs.PlainState.{PlainState}
use Rattle.fdp_rules.specs.Room.{handles_of}
use Rattle.fdp_rules.specs.Target.{Target, group_of_pid, handle_of_pid}
use Rattle.fdp_snapshot.specs.declared.state.Summary.{Summary}
use Rattle.fdp_units.specs.UnitTable.{Cut, IsGroup}

-- no identifier
pub updates-none : (c : DriveConfig) (t : Tables) (nsid : ℕ) → Updates c t t nsid []
updates-none c t nsid = record { leaves = leaves-none t.pages; references = λ s handles pages. refl; handles = refl; passes = refl; rest = refl }

-- some, and then others
pub updates-on : (c : DriveConfig) (a b d : Tables) (nsid : ℕ) (ps qs : List ℕ) → Updates c a b nsid ps → Updates c b d nsid qs → Updates c a d nsid (ps ++ qs)
updates-on c a b d nsid ps qs f g =
    let outline : b.outline ≡ a.outline = ap (λ (t : Tables). t.outline) f.rest in
    record {
      leaves = leaves-on a.pages b.pages d.pages f.leaves g.leaves;
      references = λ s handles pages.
          g.references s (handles ∙ sym (ap (λ (x : Summary). handles_at x nsid) outline)) (pages ∙ sym (ap (λ (x : HandleTable). x.unit_pages) f.handles))
          ∙ ap (λ (refs : References). fold (updated_by c s nsid) refs qs) (f.references s handles pages)
          ∙ sym (fold-append (updated_by c s nsid) (reference_at a.pages.handles) ps qs);
      handles = g.handles ∙ ap (λ (x : HandleTable). record x { rows = d.pages.handles.rows }) f.handles;
      passes = g.passes ∙ f.passes;
      rest = g.rest ∙ ap (λ (t : Tables). record t { pages = d.pages }) f.rest;
    }

-- the handles may be updated still
pub can-still : (c : DriveConfig) (a b : Tables) (nsid : ℕ) (ps : List ℕ) → CanUpdate c a nsid → Updates c a b nsid ps → CanUpdate c b nsid
can-still c a b nsid ps h f =
    let outline : b.outline ≡ a.outline = ap (λ (t : Tables). t.outline) f.rest in
    record {
      config = h.config;
      groups = h.groups ∙ sym (ap (λ (x : Cut). x.groups) f.leaves.cut);
      handles = λ ruh has. subst (λ (x : HandleTable). ruh < length x.classes) (sym f.handles) (h.handles ruh (subst (λ (x : Summary). Contains (handles_at x nsid) ruh) outline has));
    }

-- ---- one identifier

-- what it names is a group of the drive and a handle of the namespace
pub named-within : (c : DriveConfig) (handles : List ℕ) (pid rg ruh : ℕ) → named_in c handles pid ≡ Some (named_target (rg, ruh)) → (rg < c.groups) × Contains handles ruh
named-within c handles pid rg ruh e = by (nat_lt group c.groups) refl (slice_get handles (handle_of_pid c pid)) refl e
  where
    group : ℕ
    group = group_of_pid c pid

    listed : (k : ℕ) → slice_get handles (handle_of_pid c pid) ≡ Some k → Contains handles k
    listed k at = subst (Contains handles) (get_or_from_slice_get handles (handle_of_pid c pid) k 0 at) (Contains-get_or handles (handle_of_pid c pid) 0 (slice_get_within handles (handle_of_pid c pid) k at))

    by : (b : Bool) → nat_lt group c.groups ≡ b → (o : Option ℕ) → slice_get handles (handle_of_pid c pid) ≡ o → (if b then option_map (λ (k : ℕ). named_target (group, k)) o else None) ≡ Some (named_target (rg, ruh)) → (rg < c.groups) × Contains handles ruh
    by true low None at named = absurd cc
    by true low (Some k) at named =
        let same : named_target (group, k) ≡ named_target (rg, ruh) = cc in
        (subst (λ (n : ℕ). n < c.groups) (ap (λ (t : Target). t.rg) same) (ltb-true group c.groups low), subst (Contains handles) (ap (λ (t : Target). t.ruh) same) (listed k at))
    by false past o at named = absurd cc

pub named-there : (c : DriveConfig) (t : Tables) (nsid pid rg ruh : ℕ) (named : Option (ℕ × ℕ)) → CanUpdate c t nsid → option_map named_target named ≡ named_in c (handles_at t.outline nsid) pid → named ≡ Some (rg, ruh) → IsGroup t.pages.units rg × (ruh < length t.pages.handles.classes)
named-there c t nsid pid rg ruh named h is e =
    let within = named-within c (handles_at t.outline nsid) pid rg ruh (sym is ∙ ap (option_map named_target) e) in
    (omega (arith, within.0, h.groups), h.handles ruh within.1)

-- what it names, in a state in which the namespace has the handles of the outline
updated-once : (c : DriveConfig) (s : PlainState) (t : Tables) (nsid pid : ℕ) (named : Option (ℕ × ℕ)) → handles_of s nsid ≡ handles_at t.outline nsid → option_map named_target named ≡ named_in c (handles_at t.outline nsid) pid →
    fold (updated_by c s nsid) (reference_at t.pages.handles) (pid ∷ []) ≡ option_map_or (updated_at c (reference_at t.pages.handles)) (option_map named_target named) (reference_at t.pages.handles)
updated-once c s t nsid pid named handles is =
    ap (λ (o : Option Target). option_map_or (updated_at c (reference_at t.pages.handles)) o (reference_at t.pages.handles)) (ap (λ (xs : List ℕ). named_in c xs pid) handles ∙ sym is)

pub updates-named : (c : DriveConfig) (t : Tables) (now : PageTables) (nsid pid rg ruh : ℕ) (named : Option (ℕ × ℕ)) → option_map named_target named ≡ named_in c (handles_at t.outline nsid) pid → named ≡ Some (rg, ruh) → UpdatesHandle t.pages now rg ruh → Updates c t (record t { pages = now }) nsid (pid ∷ [])
updates-named c t now nsid pid rg ruh named is e h = record {
  leaves = h.leaves;
  references = λ s handles pages. h.references c pages ∙ sym (updated-once c s t nsid pid named handles is ∙ ap (λ (o : Option (ℕ × ℕ)). option_map_or (updated_at c (reference_at t.pages.handles)) (option_map named_target o) (reference_at t.pages.handles)) e);
  handles = h.rest;
  passes = h.passes;
  rest = refl;
}

-- an identifier that names none
pub updates-unnamed : (c : DriveConfig) (t : Tables) (nsid pid : ℕ) (named : Option (ℕ × ℕ)) → option_map named_target named ≡ named_in c (handles_at t.outline nsid) pid → named ≡ None → Updates c t t nsid (pid ∷ [])
updates-unnamed c t nsid pid named is e = record {
  leaves = leaves-none t.pages;
  references = λ s handles pages. sym (updated-once c s t nsid pid named handles is ∙ ap (λ (o : Option (ℕ × ℕ)). option_map_or (updated_at c (reference_at t.pages.handles)) (option_map named_target o) (reference_at t.pages.handles)) e);
  handles = refl;
  passes = refl;
  rest = refl;
}
