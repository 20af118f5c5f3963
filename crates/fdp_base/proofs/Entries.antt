-- What an entry is, by what it is as a completion, a start or a placed page.
use Rattle.std.proofs.Common.{◌≡◌, Some, None, refl, ap}
use Rattle.fdp_base.specs.declared.entry.Entry.{Entry}
use Rattle.fdp_base.specs.declared.entry.Entry.TheVariants as entries
use Rattle.fdp_base.specs.declared.entry.Host.{Host}
use Rattle.fdp_base.specs.declared.entry.Placed.{Placed}
use Rattle.fdp_base.specs.declared.entry.Started.{Started}
use Rattle.fdp_base.specs.EntryKinds.{host_of, placed_of, started_of, ServesNone}

-- what holds of completions, of starts, of placed pages and of the others, holds of every entry
pub by-entry : (P : Entry → Type 0) → ((h : Host) → P (entries.Host h)) → ((s : Started) → P (entries.Started s)) → ((p : Placed) → P (entries.Placed p)) → ((e : Entry) → ServesNone e → P e) → (e : Entry) → P e
by-entry P host started placed other (entries.Host h) = host h
by-entry P host started placed other (entries.Started s) = started s
by-entry P host started placed other (entries.Placed p) = placed p
by-entry P host started placed other (entries.Copied c) = other (entries.Copied c) (record { host = refl; started = refl; placed = refl })
by-entry P host started placed other (entries.Moved m) = other (entries.Moved m) (record { host = refl; started = refl; placed = refl })
by-entry P host started placed other (entries.Erased e) = other (entries.Erased e) (record { host = refl; started = refl; placed = refl })
by-entry P host started placed other (entries.Retired r) = other (entries.Retired r) (record { host = refl; started = refl; placed = refl })
by-entry P host started placed other (entries.Aside a) = other (entries.Aside a) (record { host = refl; started = refl; placed = refl })
by-entry P host started placed other (entries.Shut s) = other (entries.Shut s) (record { host = refl; started = refl; placed = refl })
by-entry P host started placed other (entries.Worn w) = other (entries.Worn w) (record { host = refl; started = refl; placed = refl })
by-entry P host started placed other entries.Reopened = other entries.Reopened (record { host = refl; started = refl; placed = refl })

pub host-is : (e : Entry) (h : Host) → host_of e ≡ Some h → e ≡ entries.Host h
host-is e h is =
    let P : Entry → Type 0 = λ x. host_of x ≡ Some h → x ≡ entries.Host h in
    by-entry P (λ g same. let one : g ≡ h = cc in ap entries.Host one) (λ s same. absurd cc) (λ p same. absurd cc) (λ x other same. let none = other.host in absurd cc) e is

pub started-is : (e : Entry) (s : Started) → started_of e ≡ Some s → e ≡ entries.Started s
started-is e s is =
    let P : Entry → Type 0 = λ x. started_of x ≡ Some s → x ≡ entries.Started s in
    by-entry P (λ h same. absurd cc) (λ t same. let one : t ≡ s = cc in ap entries.Started one) (λ p same. absurd cc) (λ x other same. let none = other.started in absurd cc) e is

pub placed-is : (e : Entry) (p : Placed) → placed_of e ≡ Some p → e ≡ entries.Placed p
placed-is e p is =
    let P : Entry → Type 0 = λ x. placed_of x ≡ Some p → x ≡ entries.Placed p in
    by-entry P (λ h same. absurd cc) (λ s same. absurd cc) (λ q same. let one : q ≡ p = cc in ap entries.Placed one) (λ x other same. let none = other.placed in absurd cc) e is

-- what holds of each completion, and of each entry that is none, holds of every entry
pub by-host : (P : Entry → Type 0) → ((h : Host) → P (entries.Host h)) → ((e : Entry) → host_of e ≡ None → P e) → (e : Entry) → P e
by-host P host other e = by-entry P host (λ s. other (entries.Started s) refl) (λ p. other (entries.Placed p) refl) (λ x is. other x is.host) e
