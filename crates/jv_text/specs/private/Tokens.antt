-- What was read from the tokens of a text. For private contracts.
use Rattle.std.specs.Prelude.{◌≡◌, List, Option, Some}
use Rattle.json.specs.Json as json
use Rattle.json.specs.Token.{Token}
use Rattle.serde_json.specs.Data as json_data
use Rattle.serde_json.specs.Read.{of_json, of_items, of_members, converted}
use Rattle.jv_data.specs.Value.{Value, Items, Members}
use Rattle.jv_text.specs.Json.{value_of, items_of, members_of}

-- what was read is data with the value v, and the tokens `rest` follow
pub record IsValueRead (read : Option (json.Json × List Token)) (v : Value) (rest : List Token) : Type 0 where
  pub tree : json_data.Data
  pub reads : converted of_json read ≡ Some (tree, rest)
  pub means : value_of tree ≡ Some v

pub record AreItemsRead (read : Option (json.Items × List Token)) (vs : Items) (rest : List Token) : Type 0 where
  pub tree : json_data.Items
  pub reads : converted of_items read ≡ Some (tree, rest)
  pub means : items_of tree ≡ Some vs

pub record AreMembersRead (read : Option (json.Members × List Token)) (ms : Members) (rest : List Token) : Type 0 where
  pub tree : json_data.Members
  pub reads : converted (λ js. of_members js json_data.no_members) read ≡ Some (tree, rest)
  pub means : members_of tree ≡ Some ms
