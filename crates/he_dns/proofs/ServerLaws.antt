-- What the header of a message says of its server is what the definitions say, and the other way round.
use Rattle.std.proofs.Common.{◌≡◌, ℕ, ◌/◌, true, false, eqb, ◌&&◌, not, List, Option, Some, None, IfNone, IfSome, refl, sym, ◌∙◌, ap, subst}
use Rattle.std.specs.Option.{option_and_then, option_map_or}
use Rattle.std.proofs.lemmas.Bool.{and_parts, eqb-true, eq-eqb, ne_eqb}
use Rattle.he_dns.specs.declared.header.Header.{Header}
use Rattle.he_dns.specs.Codes.{IsFailure, IsRefusal}
use Rattle.he_dns.specs.Header.{IsHeader, IsLame, is_lame_by}
use Rattle.he_dns.specs.Reading.{code_in, failure_by, header_at, lame_in, refusal_in}
use Rattle.he_dns.proofs.AnswerLaws.{header_found, header_stands}
use Rattle.he_dns.proofs.CodeLaws.{code_found, code_stands, is_failure}
use Rattle.he_dns.proofs.Numerals.{allowed, bind_some, some_same}

pub lame_stands : (m : List ℕ) → lame_in m ≡ true → IsLame m
unfolding lame_in
lame_stands m h = by_header (header_at m) refl h
  where
    by_header : (o : Option Header) → header_at m ≡ o → option_map_or (λ header. is_lame_by header.flags) o false ≡ true → IsLame m
    by_header None is h = cc h
    by_header (Some header) is h = record {
      id = header.id;
      flags = header.flags;
      questions = header.questions;
      answers = header.answers;
      header = header_stands m header is;
      lame = h;
    }

pub lame_found : (m : List ℕ) → IsLame m → lame_in m ≡ true
unfolding lame_in
lame_found m is =
    let header : Header = record { id = is.id; flags = is.flags; questions = is.questions; answers = is.answers } in
    rw (header_found m header is.header) is.lame

pub refusal_found : (m : List ℕ) (id code : ℕ) → IsRefusal m id code → refusal_in m id ≡ Some code
unfolding refusal_in
refusal_found m id code is =
    let header : Header = record { id = id; flags = is.flags; questions = 0; answers = is.answers } in
    let same : eqb id id ≡ true = eq-eqb id id refl in
    let standard : eqb (is.flags / 2048) 16 ≡ true = eq-eqb (is.flags / 2048) 16 is.standard in
    let says = code_found m is.flags is.answers 12 code is.says in
    let failed : eqb code 0 ≡ false = ne_eqb code 0 is.fails.0 in
    let named : eqb code 3 ≡ false = ne_eqb code 3 is.fails.1 in
    rw (header_found m header is.header, same, standard, says, failed, named) refl

pub refusal_stands : (m : List ℕ) (id code : ℕ) → refusal_in m id ≡ Some code → IsRefusal m id code
unfolding refusal_in
refusal_stands m id code h =
    let found = bind_some (header_at m) _ code h in
    let header = found.0 in
    let ours = eqb header.id id && eqb (header.flags / 2048) 16 in
    let bare = allowed (ours && eqb header.questions 0) (option_and_then failure_by (code_in m header.flags header.answers 12)) code found.2 in
    let said = bind_some (code_in m header.flags header.answers 12) failure_by code bare.1 in
    let told = allowed (not (eqb said.0 0) && not (eqb said.0 3)) (Some said.0) code said.2 in
    let inner = and_parts ours (eqb header.questions 0) bare.0 in
    let own = and_parts (eqb header.id id) (eqb (header.flags / 2048) 16) inner.0 in
    let same : said.0 ≡ code = some_same said.0 code told.1 in
    let stands : IsHeader m header.id header.flags header.questions header.answers = header_stands m header found.1 in
    let none : IsHeader m header.id header.flags 0 header.answers =
    subst (λ (q : ℕ). IsHeader m header.id header.flags q header.answers) (eqb-true header.questions 0 inner.1) stands in
    record {
      flags = header.flags;
      answers = header.answers;
      header = subst (λ (i : ℕ). IsHeader m i header.flags 0 header.answers) (eqb-true header.id id own.0) none;
      standard = eqb-true (header.flags / 2048) 16 own.1;
      says = code_stands m header.flags header.answers 12 code (said.1 ∙ ap Some same);
      fails = subst IsFailure same (is_failure said.0 told.0);
    }

pub some_refuses : (m : List ℕ) (id : ℕ) (o : Option ℕ) → o ≡ refusal_in m id → IfSome o (IsRefusal m id)
some_refuses m id None is = tt
some_refuses m id (Some code) is = refusal_stands m id code (sym is)

pub none_refuses : (m : List ℕ) (id : ℕ) (o : Option ℕ) → o ≡ refusal_in m id → IfNone o ((code : ℕ) → IsRefusal m id code → ⊥)
none_refuses m id (Some code) is = tt
none_refuses m id None is = λ code refusal. let e : None ≡ Some code = is ∙ refusal_found m id code refusal in cc
