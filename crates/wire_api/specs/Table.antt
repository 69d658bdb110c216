-- The table of paths and methods.
use Rattle.std.specs.Prelude.{ℕ, List, Option, Some, None, if◌then◌else◌, codes}
use Rattle.std.specs.Str.{bytes_eq}
use Rattle.state_ids.specs.declared.outcome.Verdict.TheVariants as verdict
use Rattle.wire_api.specs.declared.table.Endpoint.{Endpoint}
use Rattle.wire_api.specs.declared.table.Endpoint.TheVariants as endpoint
use Rattle.wire_api.specs.declared.table.TableMethod.{TableMethod}
use Rattle.wire_api.specs.declared.table.TableMethod.TheVariants.{Get, Post, Put, Delete, Other}
use Rattle.wire_api.specs.declared.table.Action.{Action}
use Rattle.wire_api.specs.declared.table.Action.TheVariants as action

abbrev pub method_of : List ℕ → TableMethod
method_of method =
    if bytes_eq method (codes "GET") then Get
    else if bytes_eq method (codes "POST") then Post
    else if bytes_eq method (codes "PUT") then Put
    else if bytes_eq method (codes "DELETE") then Delete
    else Other

-- what each path offers for each method
abbrev pub at_lras : TableMethod → Option Action
at_lras Get = Some action.List
at_lras Post = Some action.Begin
at_lras Put = None
at_lras Delete = None
at_lras Other = None

abbrev pub at_lra : TableMethod → Option Action
at_lra Get = Some action.Status
at_lra Post = None
at_lra Put = None
at_lra Delete = Some action.Purge
at_lra Other = None

-- only by GET, only by POST, only by PUT
abbrev pub by_get : Action → TableMethod → Option Action
by_get a Get = Some a
by_get a Post = None
by_get a Put = None
by_get a Delete = None
by_get a Other = None

abbrev pub by_post : Action → TableMethod → Option Action
by_post a Get = None
by_post a Post = Some a
by_post a Put = None
by_post a Delete = None
by_post a Other = None

abbrev pub by_put : Action → TableMethod → Option Action
by_put a Get = None
by_put a Post = None
by_put a Put = Some a
by_put a Delete = None
by_put a Other = None

abbrev pub action_at : Endpoint → TableMethod → Option Action
action_at endpoint.Lras method = at_lras method
action_at endpoint.Lra method = at_lra method
action_at endpoint.Join method = by_put action.Join method
action_at endpoint.Close method = by_put (action.Decide verdict.Close) method
action_at endpoint.Cancel method = by_put (action.Decide verdict.Cancel) method
action_at endpoint.Member method = by_get action.Member method
action_at endpoint.Leave method = by_put action.Leave method
action_at endpoint.Report method = by_put action.Report method
action_at endpoint.Pull method = by_post action.Pull method

-- the methods of a path, in the table's order
abbrev pub methods_of : Endpoint → List ℕ
methods_of endpoint.Lras = codes "GET, POST"
methods_of endpoint.Lra = codes "GET, DELETE"
methods_of endpoint.Join = codes "PUT"
methods_of endpoint.Close = codes "PUT"
methods_of endpoint.Cancel = codes "PUT"
methods_of endpoint.Member = codes "GET"
methods_of endpoint.Leave = codes "PUT"
methods_of endpoint.Report = codes "PUT"
methods_of endpoint.Pull = codes "POST"
