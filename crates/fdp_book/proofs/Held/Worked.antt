-- The tables after an entry that tells of relocation, by what it leaves of the pages.
use Rattle.std.proofs.Common.{◌≡◌, ℕ, true, IsTrue, List, [], ◌∷◌, ◌++◌, Option, refl, sym, ◌∙◌, ap, subst}
use Rattle.std.proofs.lemmas.List.{append-nil}
use Rattle.fdp_base.specs.declared.config.DriveConfig.{DriveConfig}
use Rattle.fdp_base.specs.declared.entry.Copied.{Copied}
use Rattle.fdp_base.specs.declared.entry.Entry.{Entry}
use Rattle.fdp_base.specs.declared.entry.Entry.TheVariants as entries
use Rattle.fdp_base.specs.declared.entry.Spot.{Spot}
use Rattle.fdp_book.specs.declared.tables.Tables.{Tables}
use Rattle.fdp_book.specs.Held.{IsHeld}
use Rattle.fdp_book.specs.Outlined.{Counts}
use Rattle.fdp_book.proofs.Held.Next.{held-next}
use Rattle.fdp_book.proofs.Kept.{IsAlike, flights-alike, map-alike}
use Rattle.fdp_book.proofs.Leading.{leads-same}
use Rattle.fdp_book.proofs.Outlining.{behind-counted}
use Rattle.fdp_readings.specs.fdp_locations.Located.{AreLed, AreUnitsOf}
use Rattle.fdp_readings.specs.fdp_locations.Written.{Written, written_after, written_by}
use Rattle.fdp_readings.specs.Lasting.{leaves_nothing}
use Rattle.fdp_readings.specs.fdp_pages.PageTables.{PageTables}
use Rattle.fdp_rules.specs.Change.{after, changed_by}
use Rattle.fdp_rules.specs.History.{Found, point_of}
use Rattle.fdp_rules.specs.Next.{next}
use Rattle.fdp_rules.specs.PlainState.{PlainState}
use Rattle.fdp_rules.specs.Point.{Point}
use Rattle.fdp_rules.specs.Step.{Follows}
use Rattle.fdp_rules.specs.Totals.{erases_of, media_blocks_of}
use Rattle.fdp_snapshot.specs.declared.state.Summary.{Summary}

-- what a state keeps when relocation works
pub record IsQuiet (s n : PlainState) : Type 0 where
  pub alike : IsAlike s n
  pub blocks : n.blocks ≡ s.blocks
  pub going : n.going ≡ s.going

pub quiet-copied : (c : DriveConfig) (p : Point) (copy : Copied) → IsQuiet p.state (next c p (entries.Copied copy)).state
unfolding next after changed_by
quiet-copied c p copy = record { alike = record { enabled = refl; index = refl; generation = refl; namespaces = refl }; blocks = refl; going = refl }

pub quiet-erased : (c : DriveConfig) (p : Point) (unit : ℕ) → IsQuiet p.state (next c p (entries.Erased (record { unit = unit }))).state
unfolding next after changed_by
quiet-erased c p unit = record { alike = record { enabled = refl; index = refl; generation = refl; namespaces = refl }; blocks = refl; going = refl }

pub quiet-retired : (c : DriveConfig) (p : Point) (unit : ℕ) → IsQuiet p.state (next c p (entries.Retired (record { unit = unit }))).state
unfolding next after changed_by
quiet-retired c p unit = record { alike = record { enabled = refl; index = refl; generation = refl; namespaces = refl }; blocks = refl; going = refl }

pub quiet-aside : (c : DriveConfig) (p : Point) (unit : ℕ) → IsQuiet p.state (next c p (entries.Aside (record { unit = unit }))).state
unfolding next after changed_by
quiet-aside c p unit = record { alike = record { enabled = refl; index = refl; generation = refl; namespaces = refl }; blocks = refl; going = refl }

pub quiet-worn : (c : DriveConfig) (p : Point) (rg : ℕ) → IsQuiet p.state (next c p (entries.Worn (record { rg = rg }))).state
unfolding next after changed_by
quiet-worn c p rg = record { alike = record { enabled = refl; index = refl; generation = refl; namespaces = refl }; blocks = refl; going = refl }

module _ (c : DriveConfig) (found : Found) (first : Spot → Option Written) (es : List Entry) (t now : Tables) (h : IsHeld c found first es t) (rest : now ≡ record t { outline = now.outline; pages = now.pages }) where
  abbrev p : Point
  p = point_of c found es

  -- an entry more, by which no pointer leads elsewhere
  pub held-worked : (e : Entry) → IsTrue (leaves_nothing e) → Follows true c p e → IsQuiet p.state (next c p e).state → Counts (media_blocks_of e) (erases_of e) t.outline now.outline → AreUnitsOf c (next c p e).state now.pages → AreLed c (next c p e) (written_after c p.state (written_by c found first es) e) h.pages_are.at now.pages → IsHeld c found first (es ++ e ∷ []) now
  held-worked e nothing follows quiet counts units led =
      let q : Point = next c p e in
      subst (λ (x : Tables). IsHeld c found first (es ++ e ∷ []) x) (sym rest)
      (held-next true c found first es e t (record t { outline = now.outline; pages = now.pages }) h follows
      (record {
        map_is = map-alike c p.state q.state t.map quiet.alike quiet.blocks h.map_is;
        flights_are = flights-alike c p.state q.state t.flights.items quiet.alike quiet.going h.flights_are;
        units_are = units;
      })
      (behind-counted c found es e t.outline now.outline nothing h.orderly h.standing (λ no. follows) h.outline_is h.few counts)
      (record { at = h.pages_are.at; led = led; leads = leads-same p.state q.state t.map t.flights.items h.pages_are.at quiet.alike.namespaces h.pages_are.leads }))

  -- no entry, and other pages
  pub held-unsaid : now.outline ≡ t.outline → AreUnitsOf c p.state now.pages → AreLed c p (written_by c found first es) h.pages_are.at now.pages → IsHeld c found first (es ++ []) now
  held-unsaid outline units led =
      subst (λ (xs : List Entry). IsHeld c found first xs now) (sym (append-nil es))
      (subst (λ (x : Tables). IsHeld c found first es x) (sym (rest ∙ ap (λ (x : Summary). record t { outline = x; pages = now.pages }) outline))
      (record {
        config = h.config;
        orderly = h.orderly;
        standing = h.standing;
        listed = h.listed;
        outline_is = h.outline_is;
        few = h.few;
        map_is = h.map_is;
        flights_are = h.flights_are;
        units_are = units;
        pages_are = record { at = h.pages_are.at; led = led; leads = h.pages_are.leads };
      }))

  -- no entry, and nothing was done
  pub held-rested : now.outline ≡ t.outline → now.pages ≡ t.pages → IsHeld c found first (es ++ []) now
  held-rested outline pages =
      subst (λ (xs : List Entry). IsHeld c found first xs now) (sym (append-nil es))
      (subst (λ (x : Tables). IsHeld c found first es x) (sym (rest ∙ ap (λ (x : Summary). record t { outline = x; pages = now.pages }) outline ∙ ap (λ (x : PageTables). record t { pages = x }) pages)) h)
