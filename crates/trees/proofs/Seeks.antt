-- The search for a record along a list, with the record before it.
use Rattle.std.proofs.Common.{◌≡◌, ℕ, ◌<◌, false, eqb, ◌≢◌, List, [], ◌∷◌, ◌++◌, map, length, sym, refl, ap, ◌∙◌, inl, inr, arith}
use Rattle.trees.specs.declared.records.Attribute.{Attribute}
use Rattle.trees.specs.Model.{named}
use Rattle.std.proofs.lemmas.Bool.{ne_eqb, or_from, or_parts}
use Rattle.trees.specs.Lists.{nil, chain, stop, Mem, has, Links, kids, Before}
use Rattle.trees.proofs.Families.{Good, chain_step, chain_nil}

-- the search stands at `cur`, with `prev` just before: `ahead` is what is left, and `behind` came before
abbrev pub Seeking : Links → ℕ → ℕ → List ℕ → ℕ → ℕ → Type 0
Seeking L F h behind prev cur = (stop L.next F cur ≡ nil)
    × (kids L F h ≡ behind ++ chain L.next F cur)
    × (prev ≡ nil → L.first h ≡ cur)
    × (prev ≢ nil → Mem prev (kids L F h) × (L.next prev ≡ cur))

pub mem_right : (xs ys : List ℕ) (c : ℕ) → Mem c ys → Mem c (xs ++ ys)
mem_right [] ys c m = m
mem_right (x ∷ xs) ys c m = inr (mem_right xs ys c m)

push_one : (xs : List ℕ) (y : ℕ) (zs : List ℕ) → xs ++ (y ∷ zs) ≡ (xs ++ y ∷ []) ++ zs
push_one [] y zs = refl
push_one (x ∷ xs) y zs = ap (λ (l : List ℕ). x ∷ l) (push_one xs y zs)

module _ (L : Links) (F M h : ℕ) (g : Good L F M) where
  pub seek_start : Seeking L F h [] nil (L.first h)
  seek_start = (g.ends h, refl, (λ _. refl), (λ ne. absurd (ne refl)))

  pub seek_end : (behind : List ℕ) (prev cur : ℕ) → Seeking L F h behind prev cur → cur ≡ nil → kids L F h ≡ behind ++ []
  seek_end behind prev cur s e = s.1 ∙ ap (λ (l : List ℕ). behind ++ l) (chain_nil L.next F cur e)

  pub seek_here : (behind : List ℕ) (prev cur : ℕ) → Seeking L F h behind prev cur → cur ≢ nil → Mem cur (kids L F h)
  seek_here behind prev cur s ne = rw (s.1, (chain_step L.next F cur s.0 ne).0) (mem_right behind (cur ∷ chain L.next F (L.next cur)) cur (inl refl))

  pub seek_found : (behind : List ℕ) (prev cur : ℕ) → Seeking L F h behind prev cur → cur ≢ nil → Before L F h cur prev
  seek_found behind prev cur s ne = (seek_here behind prev cur s ne, s.2, s.3)

  pub seek_in : (behind : List ℕ) (prev cur : ℕ) → Seeking L F h behind prev cur → cur ≢ nil → cur < M
  seek_in behind prev cur s ne = (g.owned (h, cur, seek_here behind prev cur s ne)).0

  pub seek_step : (behind : List ℕ) (prev cur : ℕ) → Seeking L F h behind prev cur → cur ≢ nil
      → Seeking L F h (behind ++ cur ∷ []) cur (L.next cur) × (length (chain L.next F (L.next cur)) < length (chain L.next F cur))
  seek_step behind prev cur s ne =
      let k = chain_step L.next F cur s.0 ne in (
        (k.1, s.1 ∙ (ap (λ (l : List ℕ). behind ++ l) k.0 ∙ push_one behind cur (chain L.next F (L.next cur))), (λ q. absurd (ne q)), (λ _. (seek_here behind prev cur s ne, refl))),
        (let z = ap length k.0 in omega arith),
      )

-- one more that is not c
pub not_pushed : (c : ℕ) (xs : List ℕ) (y : ℕ) → has c xs ≡ false → y ≢ c → has c (xs ++ y ∷ []) ≡ false
not_pushed c [] y e ne = or_from (eqb c y) false (ne_eqb c y (λ q. ne (sym q))) refl
not_pushed c (x ∷ xs) y e ne = let p = or_parts (eqb c x) (has c xs) e in or_from (eqb c x) (has c (xs ++ y ∷ [])) p.0 (not_pushed c xs y p.1 ne)

-- the same for a name
pub not_named : (f : ℕ → Attribute) (name : ℕ) (xs : List ℕ) (y : ℕ) → named name (map f xs) ≡ false → (f y).name ≢ name → named name (map f (xs ++ y ∷ [])) ≡ false
not_named f name [] y e ne = or_from (eqb (f y).name name) false (ne_eqb (f y).name name ne) refl
not_named f name (x ∷ xs) y e ne = let p = or_parts (eqb (f x).name name) (named name (map f xs)) e in or_from (eqb (f x).name name) (named name (map f (xs ++ y ∷ []))) p.0 (not_named f name xs y p.1 ne)

pub seek_split : (L : Links) (F h : ℕ) (behind : List ℕ) (prev cur : ℕ) → Seeking L F h behind prev cur → cur ≢ nil → kids L F h ≡ behind ++ (cur ∷ chain L.next F (L.next cur))
seek_split L F h behind prev cur s ne = s.1 ∙ ap (λ (l : List ℕ). behind ++ l) (chain_step L.next F cur s.0 ne).0
