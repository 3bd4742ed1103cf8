-- What a client has said and was told adds up.
use Rattle.std.proofs.Common.{◌≡◌, ℕ, List, [], ◌++◌, sym, ap, ◌∙◌, subst, append_assoc, append-nil}
use Rattle.tokio.specs.Io.Moved.{Passes, TakesWritten}
use Rattle.he_sessions.specs.Talks.{Talks}
use Rattle.he_sessions.specs.Went.{Hears, Went, read, wrote}

module _ {S : Type 0} (reads writes : Passes S) (first : S) where
  -- a part of what is to be written was written
  pub talks_written : (said : List ℕ) (old new : S) (rest left all : List ℕ) → TakesWritten writes old new rest left
      → Talks reads writes first said old rest all → Talks reads writes first said new left all
  talks_written said old new rest left all (sent, taken, cut) talks = record {
    told = talks.told ++ sent;
    went = wrote said talks.told sent old new talks.went taken;
    whole = append_assoc talks.told sent left ∙ ap (λ xs. talks.told ++ xs) (sym cut) ∙ talks.whole;
  }

  -- the client said more
  pub talks_heard : (before come more : List ℕ) (old new : S) (rest all : List ℕ) → Hears reads old new come more
      → Talks reads writes first (before ++ come) old rest all → Talks reads writes first (before ++ more) new rest all
  talks_heard before come more old new rest all (octets, given, added) talks = record {
    told = talks.told;
    went = subst (λ (xs : List ℕ). Went reads writes first xs talks.told new)
        (append_assoc before come octets ∙ ap (λ xs. before ++ xs) (sym added))
        (read (before ++ come) talks.told octets old new talks.went given);
    whole = talks.whole;
  }

  -- it is to be told more
  pub talks_more : (said : List ℕ) (client : S) (all reply : List ℕ) → Talks reads writes first said client [] all
      → Talks reads writes first said client reply (all ++ reply)
  talks_more said client all reply talks = record {
    told = talks.told;
    went = talks.went;
    whole = ap (λ xs. xs ++ reply) (sym (append-nil talks.told) ∙ talks.whole);
  }

  -- the same, otherwise written
  pub talks_as : (said said' : List ℕ) (client client' : S) (rest rest' all all' : List ℕ) → said ≡ said' → client ≡ client'
      → rest ≡ rest' → all ≡ all'
      → Talks reads writes first said client rest all → Talks reads writes first said' client' rest' all'
  talks_as said said' client client' rest rest' all all' same_said same_client same_rest same_all talks = record {
    told = talks.told;
    went = subst (λ (s : S). Went reads writes first said' talks.told s) same_client
        (subst (λ (xs : List ℕ). Went reads writes first xs talks.told client) same_said talks.went);
    whole = ap (λ xs. talks.told ++ xs) (sym same_rest) ∙ talks.whole ∙ same_all;
  }
