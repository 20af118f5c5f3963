-- A value or the fault of its range, beside a further fault.
use Rattle.std.proofs.Common.{◌≡◌, ℕ, Option, Some, None, Ok, Err, refl, ap}
use Rattle.std.specs.Option.{option_or}
use Rattle.fdp_config.specs.declared.fault.ConfigFault.{ConfigFault}
use Rattle.fdp_config.specs.declared.fault.ConfigFault.TheVariants.{Range}
use Rattle.fdp_config.specs.declared.key.Key.{Key}
use Rattle.fdp_config.specs.Reader.Checks.{checked}

-- the fault of a first check is that of both
pub checked_err : {A B : Type 0} (key : Key) (a : A) (b : B) (o p : Option ℕ) (fault : ConfigFault) → Err fault ≡ checked key a o → Err fault ≡ checked key b (option_or o p)
checked_err key a b None p fault is = absurd (cc)
checked_err key a b (Some told) p fault is = let same : fault ≡ Range key told = cc in ap Err same

-- a check that passes leaves the further one
pub checked_ok : {A : Type 0} (key : Key) (a x : A) (o p : Option ℕ) → Ok x ≡ checked key a o → (x ≡ a) × (option_or o p ≡ p) × (o ≡ None)
checked_ok key a x None p is = (cc, refl, refl)
checked_ok key a x (Some told) p is = absurd (cc)

-- both checks pass
pub checked_both : {A : Type 0} (key : Key) (a x : A) (o p : Option ℕ) → Ok x ≡ checked key a o → p ≡ None → Ok x ≡ checked key a (option_or o p)
checked_both key a x o p is free = let (same, rest, _) = checked_ok key a x o p is in rw (same, rest, free)

-- the first check passes, and the further one fails
pub checked_further : {A : Type 0} (key : Key) (a x : A) (o p : Option ℕ) (told : ℕ) → Ok x ≡ checked key a o → p ≡ Some told → Err (Range key told) ≡ checked key a (option_or o p)
checked_further key a x o p told is fails = let (_, rest, _) = checked_ok key a x o p is in rw (rest, fails)

-- the value that passed
pub checked_value : {A : Type 0} (key : Key) (a x : A) (o : Option ℕ) → Ok x ≡ checked key a o → x ≡ a
checked_value key a x None is = cc
checked_value key a x (Some told) is = absurd (cc)

-- what a failed check tells
pub checked_told : {A : Type 0} (key : Key) (a : A) (o : Option ℕ) (fault : ConfigFault) → checked key a o ≡ Err fault → (told : ℕ) × (o ≡ Some told) × (fault ≡ Range key told)
checked_told key a None fault is = absurd (cc)
checked_told key a (Some told) fault is = let same : fault ≡ Range key told = cc in (told, refl, same)

-- the value of a check that passed
pub checked_free : {A : Type 0} (key : Key) (a x : A) (o : Option ℕ) → checked key a o ≡ Ok x → (o ≡ None) × (x ≡ a)
checked_free key a x None is = let same : x ≡ a = cc in (refl, same)
checked_free key a x (Some told) is = absurd (cc)

pub checked_fails : {A : Type 0} (key : Key) (a : A) (o : Option ℕ) (told : ℕ) (fault : ConfigFault) → o ≡ Some told → fault ≡ Range key told → checked key a o ≡ Err fault
checked_fails key a o told fault fails is = rw (fails, is) refl

pub checked_passes : {A : Type 0} (key : Key) (a x : A) (o : Option ℕ) → o ≡ None → x ≡ a → checked key a o ≡ Ok x
checked_passes key a x o free is = rw (free, is) refl

pub option_or-none : (o : Option ℕ) → option_or o None ≡ o
option_or-none None = refl
option_or-none (Some told) = refl
