-- The name and the password in credentials.
use Rattle.std.proofs.Common.{◌≡◌, ℕ, List, ◌∷◌, ◌++◌, Option, Some, None, Result, Ok, Err, IfNone, IfOk, IfSome, sym, ap, subst, ◌∙◌}
use Rattle.std.specs.declared.alloc.Global.{Global}
use Rattle.std.specs.declared.vec.Vec.{Vec}
use Rattle.base64.specs.GeneralPurpose.{encode_of}
use Rattle.base64.specs.Engines.{standard}
use Rattle.he_addr.proofs.Cuts.{cut_joined, cut_some}
use Rattle.he_addr.specs.Reading.{cut_in}
use Rattle.he_users.specs.Basic.{AdmitsBasic, IsNamed, IsTextOf, IsTextOfNone, LacksBasic, token_in}
use Rattle.he_users.specs.declared.users.Users.{Users}

-- the name of a user
pub named : (users : Users) (value token pair : List ℕ) (found : Option (Vec ℕ Global)) → token_in value ≡ Some token → IsTextOf token pair
    → IsNamed users pair found → IfSome found (λ name. AdmitsBasic users value name.items)
named users value token pair None given text is = tt
named users value token pair (Some name) given text (password, cut, admitted) =
    let parts = cut_some 58 pair (name.items, password) cut in
    record {
      password = password;
      basic = record {
        token = token;
        given = given;
        encodes = text.encodes ∙ ap (λ (xs : List ℕ). encode_of standard xs) parts.joined;
        bare = parts.lacks;
      };
      admitted = admitted;
    }

-- two tokens of one field
same_token : (value token other : List ℕ) → token_in value ≡ Some token → token_in value ≡ Some other → token ≡ other
same_token value token other is also = cc

pub unnamed : (users : Users) (value token pair : List ℕ) (found : Option (Vec ℕ Global)) → token_in value ≡ Some token → IsTextOf token pair
    → IsNamed users pair found → IfNone found (LacksBasic users value)
unnamed users value token pair (Some name) given text is = tt
unnamed users value token pair None given text none = λ name password bytes basic admitted.
    let joined : name ++ 58 ∷ password ≡ pair =
    text.only (name ++ 58 ∷ password) bytes (same_token value token basic.token given basic.given ∙ basic.encodes) in
    none name password (ap (λ (xs : List ℕ). cut_in 58 xs) (sym joined) ∙ cut_joined 58 name password basic.bare) admitted

-- a token that is the text of nothing
pub untold : (users : Users) (value token : List ℕ) → token_in value ≡ Some token → IsTextOfNone token → LacksBasic users value
untold users value token given none = λ name password bytes basic admitted.
    none (name ++ 58 ∷ password) bytes (same_token value token basic.token given basic.given ∙ basic.encodes)

-- both, of a pair that was passed on
pub named_ok : {E : Type 0} (users : Users) (value token pair passed : List ℕ) (result : Result (Option (Vec ℕ Global)) E) → token_in value ≡ Some token → IsTextOf token pair → passed ≡ pair
    → IfOk result (IsNamed users passed) → IfOk result (λ found. IfSome found (λ name. AdmitsBasic users value name.items))
named_ok users value token pair passed (Err e) given text same is = tt
named_ok users value token pair passed (Ok found) given text same is =
    named users value token pair found given text (subst (λ (xs : List ℕ). IsNamed users xs found) same is)

pub unnamed_ok : {E : Type 0} (users : Users) (value token pair passed : List ℕ) (result : Result (Option (Vec ℕ Global)) E) → token_in value ≡ Some token → IsTextOf token pair → passed ≡ pair
    → IfOk result (IsNamed users passed) → IfOk result (λ found. IfNone found (LacksBasic users value))
unnamed_ok users value token pair passed (Err e) given text same is = tt
unnamed_ok users value token pair passed (Ok found) given text same is =
    unnamed users value token pair found given text (subst (λ (xs : List ℕ). IsNamed users xs found) same is)
