-- Names among lists, and what stands beside them.
use Rattle.std.proofs.Common.{◌≡◌, ℕ, zero, suc, ℤ, Bool, true, false, List, [], ◌∷◌, ◌++◌, Option, Some, None, length, map, refl, sym, ◌∙◌, subst, inl, inr, slice_get, arith, if◌then◌else◌}
use Rattle.std.specs.Prelude.{is_some}
use Rattle.std.specs.Map.{lookup}
use Rattle.std.specs.Option.{option_map}
use Rattle.std.specs.Str.{bytes_eq}
use Rattle.std.proofs.lemmas.Option.{slice_get-map}
use Rattle.std.proofs.lemmas.Slice.Eq.{bytes_eq-Decides}
use Rattle.dl_forms.specs.Context.{Text, Parts, is_among, look_up}
use Rattle.dl_forms.proofs.NameLemmas.{split}
use Rattle.dl_forms.proofs.TakenLemmas.{is_among-append}
use Rattle.dl_notation.specs.Environment.{TagNames, ProtocolNames}
use Rattle.dl_notation.specs.Rules.{inner_parts, other_words}

pub ruleset among = (is_among-append)

-- ---- maps

-- a map's look-up
pub lookup-look_up : {X : Type 0} (t : Text) (entries : List (Text × X)) → lookup (bytes_eq t) entries ≡ look_up t entries
lookup-look_up t [] = refl
lookup-look_up t (entry ∷ entries) = elim (split (bytes_eq t entry.0)) [ inl e ↦ rw e refl | inr e ↦ rw e (lookup-look_up t entries) ]

-- ---- words

among_equal : (t u : Text) (names : List Text) (b : Bool) → bytes_eq t u ≡ true → is_among u names ≡ b → is_among t names ≡ b
among_equal t u names b e h = subst (λ x. is_among x names ≡ b) (sym ((bytes_eq-Decides t u).0 e)) h

-- the value of a word that no variable hides
pub look_up-other_words : (variables : List Text) (words : List (Text × ℤ)) (t : Text) →
    look_up t (other_words variables words) ≡ (if is_among t variables then None else look_up t words)
look_up-other_words variables [] t = elim (split (is_among t variables)) [ inl e ↦ rw e refl | inr e ↦ rw e refl ]
look_up-other_words variables (word ∷ words) t =
    elim (split (is_among word.0 variables)) [
      | inl hidden ↦ (elim (split (bytes_eq t word.0)) [
        | inl e ↦ (let also = among_equal t word.0 variables true e hidden in rw hidden (look_up-other_words variables words t ∙ rw also refl))
        | inr e ↦ rw (hidden, e) (look_up-other_words variables words t)
      ])
      | inr shown ↦ (elim (split (bytes_eq t word.0)) [
        | inl e ↦ (let also = among_equal t word.0 variables false e shown in rw (shown, also) (rw e refl))
        | inr e ↦ rw (shown, e) (look_up-other_words variables words t)
      ])
    ]

-- a hidden word, and one that isn't
pub hidden_word : (variables : List Text) (words : List (Text × ℤ)) (t : Text) → is_among t variables ≡ true → look_up t (other_words variables words) ≡ None
hidden_word variables words t h = look_up-other_words variables words t ∙ rw h refl

pub shown_word : (variables : List Text) (words : List (Text × ℤ)) (t : Text) → is_among t variables ≡ false → look_up t (other_words variables words) ≡ look_up t words
shown_word variables words t h = look_up-other_words variables words t ∙ rw h refl

pub ruleset words = (hidden_word, shown_word)

-- ---- protocols

-- the tags of a protocol
pub tags_among : (t : Text) (tags : List (Text × TagNames)) → is_among t (map (λ (tag : Text × TagNames). tag.0) tags) ≡ is_some (look_up t tags)
tags_among t [] = refl
tags_among t (tag ∷ tags) = elim (split (bytes_eq t tag.0)) [ inl e ↦ rw e refl | inr e ↦ rw e (tags_among t tags) ]

abbrev pub parts_beside : Text × ProtocolNames → Parts
parts_beside protocol = inner_parts protocol.1

-- a protocol of the file, by its number
pub parts_at : (protocols : List (Text × ProtocolNames)) (i : ℕ) →
    slice_get (map parts_beside protocols) i ≡ option_map inner_parts (option_map (λ (p : Text × ProtocolNames). p.1) (slice_get protocols i))
parts_at protocols i = slice_get-map parts_beside protocols i ∙ twice (slice_get protocols i)
  where
    twice : (o : Option (Text × ProtocolNames)) → option_map parts_beside o ≡ option_map inner_parts (option_map (λ (p : Text × ProtocolNames). p.1) o)
    twice None = refl
    twice (Some p) = refl

-- the item's own behind them
pub own_parts_at : (protocols : List (Text × ProtocolNames)) (own : Parts) (i : ℕ) → i ≡ length protocols → slice_get (map parts_beside protocols ++ own ∷ []) i ≡ Some own
own_parts_at [] own zero h = refl
own_parts_at [] own (suc i) h = absurd (omega (arith, h))
own_parts_at (p ∷ protocols) own zero h = absurd (omega (arith, h))
own_parts_at (p ∷ protocols) own (suc i) h = own_parts_at protocols own i (omega (arith, h))

pub other_parts_at : (protocols : List (Text × ProtocolNames)) (own : Parts) (i : ℕ) → (i ≡ length protocols → ⊥) →
    slice_get (map parts_beside protocols ++ own ∷ []) i ≡ option_map inner_parts (option_map (λ (p : Text × ProtocolNames). p.1) (slice_get protocols i))
other_parts_at [] own zero h = absurd (h refl)
other_parts_at [] own (suc i) h = refl
other_parts_at (p ∷ protocols) own zero h = refl
other_parts_at (p ∷ protocols) own (suc i) h = other_parts_at protocols own i (λ e. h (omega (arith, e)))

pub ruleset parts = (tags_among, parts_at, own_parts_at, other_parts_at)
