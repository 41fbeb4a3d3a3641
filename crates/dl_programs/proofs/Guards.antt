-- No guard binds the word `me`.
use Rattle.std.proofs.Common.{◌≡◌, ℕ, false, ◌==◌, Option, Some, None, [], ◌∷◌, slice_get, unwrap_or, refl}
use Rattle.dl_model.specs.declared.protocol.Transition.{Transition}
use Rattle.dl_model.specs.declared.protocol.Tag.{Tag}
use Rattle.dl_model.specs.declared.protocol.Protocol.{Protocol}
use Rattle.dl_model.specs.declared.file.Decls.{Decls}
use Rattle.dl_model.specs.Sorts.{has}
use Rattle.dl_model.specs.Lookup.{tag_at, no_tag, never, receive_of, arg_names}
use Rattle.dl_model.specs.Words.{me_word, to_word, from_word}
use Rattle.dl_model.specs.Scopes.{own_label}
use Rattle.dl_model.specs.Spoken.{bound_names}
use Rattle.dl_model.specs.Formed.{TagIsFormed, ReceiveIsFormed, IsFormed}
use Rattle.dl_model.proofs.Small.{or-true-left, each-map}
use Rattle.dl_model.proofs.Sorted.{protocol-has}
use Rattle.dl_inv.proofs.Lists.{each-get}
use Rattle.dl_programs.proofs.Known.{binds-none}

module _ (d : Decls) (formed : IsFormed d) where
  abbrev NoMe : Tag → Type 0
  NoMe t = (has (bound_names t.send.guard) me_word ≡ false) × (has (bound_names (receive_of t).guard) me_word ≡ false)

  receive-no : (protocol : Protocol) (t : Tag) (o : Option Transition) → ReceiveIsFormed protocol (me_word ∷ from_word ∷ arg_names t.args) o → has (bound_names (unwrap_or o never).guard) me_word ≡ false
  receive-no protocol t None h = refl
  receive-no protocol t (Some transition) h =
      binds-none transition.guard (record { protocol = own_label protocol; variables = me_word ∷ from_word ∷ arg_names t.args; messages = [] }) me_word h.guard.0.0 (or-true-left (me_word == me_word) (has (from_word ∷ arg_names t.args) me_word) refl)

  tag-no : (protocol : Protocol) (t : Tag) → TagIsFormed protocol t → NoMe t
  tag-no protocol t h = (
    binds-none t.send.guard (record { protocol = own_label protocol; variables = me_word ∷ to_word ∷ arg_names t.args; messages = [] }) me_word h.send.guard.0.0 (or-true-left (me_word == me_word) (has (to_word ∷ arg_names t.args) me_word) refl),
    receive-no protocol t t.receive h.receive,
  )

  tags-no : (label tag : ℕ) → NoMe (tag_at d.inst label tag)
  tags-no label tag = protocol-has d.inst (λ protocol. NoMe (unwrap_or (slice_get protocol.tags tag) no_tag)) (refl, refl)
      (λ p protocol e. each-get NoMe protocol.tags tag no_tag (refl, refl) (each-map (TagIsFormed protocol) NoMe protocol.tags (formed.inst.protocols p protocol e).tags (λ t h. tag-no protocol t h)))
      (slice_get d.inst.of label)

  pub send-guard-me : (label tag : ℕ) → has (bound_names (tag_at d.inst label tag).send.guard) me_word ≡ false
  send-guard-me label tag = (tags-no label tag).0

  pub receive-guard-me : (label tag : ℕ) → has (bound_names (receive_of (tag_at d.inst label tag)).guard) me_word ≡ false
  receive-guard-me label tag = (tags-no label tag).1
