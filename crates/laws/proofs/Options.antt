-- Answers that may be missing, the first of several, and equations that cannot be.
use Rattle.std.proofs.Common.{◌≡◌, ℕ, Bool, true, false, ◌⊎◌, Some, None, Option, refl, ap, inl, inr, arith}
use Rattle.std.specs.Option.{option_map}
use Rattle.laws.specs.declared.fault.Fault.{Fault}
use Rattle.laws.specs.Lists.{or_else}
use Rattle.laws.specs.Checks.{unless}

-- different constructors are never equal: from their equation `cc` shows that 0 is 1, and from that anything follows
pub no : {A : Type 0} → ◌≡◌ {A = ℕ} 0 1 → A
no z = absurd (omega arith)

module _ {X : Type 0} where
  -- two answers in turn are missing only if both are
  pub or_else_none : (o p : Option X) → or_else o p ≡ None → (o ≡ None) × (p ≡ None)
  or_else_none None p h = (refl, h)
  or_else_none (Some x) p h = no (cc)

  pub or_else_some : (o p : Option X) (x : X) → or_else o p ≡ Some x → (o ≡ Some x) ⊎ ((o ≡ None) × (p ≡ Some x))
  or_else_some None p x h = inr (refl, h)
  or_else_some (Some y) p x h = inl h

  pub or_else_skips : (o p : Option X) → o ≡ None → or_else o p ≡ p
  or_else_skips o p h = ap (λ q. or_else q p) h

  pub or_else_stops : (o p : Option X) (x : X) → o ≡ Some x → or_else o p ≡ Some x
  or_else_stops o p x h = ap (λ q. or_else q p) h

  pub some_or_none : (o : Option X) → (o ≡ None) ⊎ ((x : X) × (o ≡ Some x))
  some_or_none None = inl refl
  some_or_none (Some x) = inr (x, refl)

  pub mapped_some :
      {Y : Type 0} (f : X → Y) (o : Option X) (y : Y) → option_map f o ≡ Some y → (x : X) × (o ≡ Some x) × (y ≡ f x)
  mapped_some f None y h = no (cc)
  mapped_some f (Some x) y h = (x, refl, cc)

  pub mapped_none : {Y : Type 0} (f : X → Y) (o : Option X) → option_map f o ≡ None → o ≡ None
  mapped_none f None h = refl
  mapped_none f (Some x) h = no (cc)

pub unless_none : (b : Bool) (f : Fault) → unless b f ≡ None → b ≡ true
unless_none true f h = refl
unless_none false f h = no (cc)

pub unless_some : (b : Bool) (f g : Fault) → unless b f ≡ Some g → (b ≡ false) × (g ≡ f)
unless_some true f g h = no (cc)
unless_some false f g h = (refl, cc)
