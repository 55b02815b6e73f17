-- What a list makes of a thing, one element after the other: what each element keeps the list keeps; one list after the other; and two lists that
-- make the same of every thing. Assumes nothing.
use mathlib.Core.Path.{◌≡◌, refl, sym, ◌∙◌}
use mathlib.Core.List.{List, [], ◌∷◌, ◌++◌}
use Rattle.parity.specs.Lists.{followed}

-- the induction, for what holds of two things that follow the same list
pub followed-keeps :
    {A B C : Type 0} (f : A → C → A) (g : B → C → B) (P : A → B → Type 0) → ((x : A) (y : B) (c : C) → P x y → P (f x c) (g y c))
    → (cs : List C) (x : A) (y : B) → P x y → P (followed f x cs) (followed g y cs)
followed-keeps f g P kept [] x y p = p
followed-keeps f g P kept (c ∷ cs) x y p = followed-keeps f g P kept cs (f x c) (g y c) (kept x y c p)

-- .. and of one thing
pub followed-holds :
    {A C : Type 0} (f : A → C → A) (P : A → Type 0) → ((x : A) (c : C) → P x → P (f x c)) → (cs : List C) (x : A) → P x → P (followed f x cs)
followed-holds f P kept [] x p = p
followed-holds f P kept (c ∷ cs) x p = followed-holds f P kept cs (f x c) (kept x c p)

module _ {A C : Type 0} (f : A → C → A) where
  -- one list after the other
  pub followed-append : (xs ys : List C) (x : A) → followed f x (xs ++ ys) ≡ followed f (followed f x xs) ys
  followed-append [] ys x = refl
  followed-append (c ∷ cs) ys x = followed-append cs ys (f x c)

  -- two lists that make the same of every thing are one in the other's place
  pub followed_same :
      (ys zs : List C) → ((x : A) → followed f x ys ≡ followed f x zs) → (xs : List C) (x : A) → followed f x (xs ++ ys) ≡ followed f x (xs ++ zs)
  followed_same ys zs same xs x = followed-append xs ys x ∙ same (followed f x xs) ∙ sym (followed-append xs zs x)
