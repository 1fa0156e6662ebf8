-- Texts of ids, one id more.
use Rattle.std.proofs.Common.{◌≡◌, ℕ, ◌+◌, ◌<◌, List, [], ◌∷◌, ◌++◌, length, map, take, get_or, ap, ◌∙◌, sym, append_assoc, append-nil}
use Rattle.std.proofs.lemmas.Grind.{flat_map-append}
use Rattle.std.proofs.lemmas.List.{take_more, map-append}
use Rattle.std.specs.List.{flat_map}
use Rattle.mail_core.specs.MsgIds.{MessageId}
use Rattle.luvazhimba_c.specs.Ids.{id_text, id_text_length}

module _ (ids : List MessageId) (at : ℕ) (id : MessageId) (within : at < length ids) (is : (other : MessageId) → id ≡ get_or ids at other) where
  taken : take (at + 1) ids ≡ take at ids ++ id ∷ []
  taken = take_more ids at id within ∙ ap (λ x. take at ids ++ x ∷ []) (sym (is id))

  pub more_texts : (front old new : List ℕ) → old ≡ front ++ flat_map id_text (take at ids) → new ≡ old ++ id_text id
      → new ≡ front ++ flat_map id_text (take (at + 1) ids)
  more_texts front old new e f =
      let all : flat_map id_text (take (at + 1) ids) ≡ flat_map id_text (take at ids) ++ id_text id =
      ap (flat_map id_text) taken ∙ flat_map-append id_text (take at ids) (id ∷ []) ∙ ap (λ x. flat_map id_text (take at ids) ++ x) (append-nil (id_text id)) in
      f ∙ ap (λ x. x ++ id_text id) e ∙ append_assoc front (flat_map id_text (take at ids)) (id_text id) ∙ ap (λ x. front ++ x) (sym all)

  pub more_lens : (front old new : List ℕ) → old ≡ front ++ map id_text_length (take at ids) → new ≡ old ++ id_text_length id ∷ []
      → new ≡ front ++ map id_text_length (take (at + 1) ids)
  more_lens front old new e f =
      let all : map id_text_length (take (at + 1) ids) ≡ map id_text_length (take at ids) ++ id_text_length id ∷ [] =
      ap (map id_text_length) taken ∙ map-append id_text_length (take at ids) (id ∷ []) in
      f ∙ ap (λ x. x ++ id_text_length id ∷ []) e ∙ append_assoc front (map id_text_length (take at ids)) (id_text_length id ∷ []) ∙ ap (λ x. front ++ x) (sym all)
