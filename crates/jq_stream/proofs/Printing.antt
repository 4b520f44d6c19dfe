-- Bytes that are printed piece by piece.
use Rattle.std.proofs.Common.{◌≡◌, ℕ, List, [], ◌++◌, Bool, true, false, if◌then◌else◌, ◌∙◌, refl, sym, ap, subst, append-nil, append_assoc}
use Rattle.jq_stream.specs.Streams.{Outputs}
use Rattle.jq_stream.specs.private.Answering.{IsPrinted, IsPrintedFirst}
use Rattle.jq_stream.specs.declared.answers.OutputBuffers.{OutputBuffers}
use Rattle.jq_stream.proofs.Sending.{sent_none, sent_more, sent_then_first, first_sent, sent_longer, added_sent, added_first}

pub printed_none : (a : OutputBuffers) (o : Outputs) → IsPrinted [] a a o o
printed_none a o = record { output = sent_none a.printed.items o.output; errors = sent_none a.reported.items o.errors; failed = refl }

pub printed_more : (bytes more : List ℕ) (a b c : OutputBuffers) (o p q : Outputs) → IsPrinted bytes a b o p → IsPrinted more b c p q → IsPrinted (bytes ++ more) a c o q
printed_more bytes more a b c o p q g h = record {
  output = sent_more _ _ _ _ _ _ bytes more g.output h.output;
  errors = sent_more _ _ _ _ _ _ [] [] g.errors h.errors;
  failed = h.failed ∙ g.failed;
}

pub printed_then_first : (bytes more : List ℕ) (a b c : OutputBuffers) (o p q : Outputs) → IsPrinted bytes a b o p → IsPrintedFirst more b c p q → IsPrintedFirst (bytes ++ more) a c o q
printed_then_first bytes more a b c o p q g h = record {
  output = sent_then_first _ _ _ _ _ _ bytes more g.output h.output;
  errors = sent_then_first _ _ _ _ _ _ [] [] g.errors h.errors;
}

-- more bytes follow, which were not printed
pub first_printed : (bytes more : List ℕ) (a b : OutputBuffers) (o p : Outputs) → IsPrinted bytes a b o p → IsPrintedFirst (bytes ++ more) a b o p
first_printed bytes more a b o p g = record { output = first_sent _ _ _ _ bytes more g.output; errors = first_sent _ _ _ _ [] [] g.errors }

-- the bytes under another name
pub printed_whole : (whole bytes : List ℕ) (a b : OutputBuffers) (o p : Outputs) → whole ≡ bytes → IsPrinted bytes a b o p → IsPrinted whole a b o p
printed_whole whole bytes a b o p is g = subst (λ l. IsPrinted l a b o p) (sym is) g

pub first_whole : (whole bytes : List ℕ) (a b : OutputBuffers) (o p : Outputs) → whole ≡ bytes → IsPrintedFirst bytes a b o p → IsPrintedFirst whole a b o p
first_whole whole bytes a b o p is g = subst (λ l. IsPrintedFirst l a b o p) (sym is) g

-- ---- a piece

-- a piece was added to the buffer, and then the buffer was perhaps written
pub piece_added : (piece : List ℕ) (a b c : OutputBuffers) (o p : Outputs) → b.printed.items ≡ a.printed.items ++ piece → b.reported.items ≡ a.reported.items → b.failed ≡ a.failed
    → IsPrinted [] b c o p → IsPrinted piece a c o p
piece_added piece a b c o p added same failed g = record {
  output = added_sent _ _ _ _ _ _ added g.output;
  errors = added_sent _ _ _ _ _ _ (same ∙ sym (append-nil a.reported.items)) g.errors;
  failed = g.failed ∙ failed;
}

pub piece_added_first : (piece rest : List ℕ) (a b c : OutputBuffers) (o p : Outputs) → b.printed.items ≡ a.printed.items ++ piece → b.reported.items ≡ a.reported.items
    → IsPrintedFirst [] b c o p → IsPrintedFirst (piece ++ rest) a c o p
piece_added_first piece rest a b c o p added same g = record {
  output = sent_longer _ _ _ _ piece rest (added_first _ _ _ _ _ _ added g.output);
  errors = added_first _ _ _ _ _ _ (same ∙ sym (append-nil a.reported.items)) g.errors;
}

-- nothing was added to the buffers
pub none_added_first : (rest : List ℕ) (a b : OutputBuffers) (o : Outputs) → b.printed.items ≡ a.printed.items → b.reported.items ≡ a.reported.items → IsPrintedFirst rest a b o o
none_added_first rest a b o same other =
    piece_added_first [] rest a b b o o (same ∙ sym (append-nil a.printed.items)) other (first_printed [] [] b b o o (printed_none b o))

-- ---- the bytes that remain after a piece

pub more_remain : (whole done rest piece after : List ℕ) (more : Bool) → whole ≡ done ++ rest → rest ≡ piece ++ (if more then after else []) → more ≡ true → whole ≡ (done ++ piece) ++ after
more_remain whole done rest piece after more e f is =
    e ∙ ap (λ l. done ++ l) (f ∙ ap (λ m. piece ++ (if m then after else [])) is) ∙ sym (append_assoc done piece after)

pub none_remain : (whole done rest piece after : List ℕ) (more : Bool) → whole ≡ done ++ rest → rest ≡ piece ++ (if more then after else []) → more ≡ false → whole ≡ done ++ piece
none_remain whole done rest piece after more e f is =
    e ∙ ap (λ l. done ++ l) (f ∙ ap (λ m. piece ++ (if m then after else [])) is ∙ append-nil piece)
