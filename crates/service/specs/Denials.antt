-- Requests that are denied before the service sees them, and connections for which there is no place.
use Rattle.std.specs.Prelude.{◌≡◌, ℕ, Bool, true, false, not, ◌||◌, ◌&&◌, ◌==◌, List, [], ◌∷◌, ◌++◌, length, take, codes, bytes_eq}
use Rattle.std.specs.Prelude.{nat_lt, nat_le, slice_index, Option, Some, None, is_some, option_map, if◌then◌else◌}
use Rattle.std.specs.List.{prefix_len}
use Rattle.std.specs.Char.{is_ascii_digit}
use Rattle.http_header.specs.HeaderMap.{get, get_all}
use Rattle.http.specs.declared.request.Request.{Request}
use Rattle.http.specs.Request.{head_of}
use Rattle.http_uri.specs.Uri.{uri_scheme, uri_authority}
use Rattle.http1.specs.Text.{eq_ignore_case}
use Rattle.http1.specs.Fields.{Header}
use Rattle.http_server.specs.declared.response.Response.{Response}
use Rattle.http_server.specs.Response.{IsResponse}
use Rattle.service.specs.declared.denial.Denial.{Denial}
use Rattle.service.specs.declared.denial.Denial.TheVariants.{Target, Host, Origin}

-- the bytes of a request's first field of this name
abbrev pub field_of : Request (List ℕ) → List ℕ → Option (List ℕ)
field_of request name = option_map (λ value. value.bytes) (get (head_of request).headers name)

-- the request has more than one field of this name
abbrev pub is_repeated : Request (List ℕ) → List ℕ → Bool
is_repeated request name = nat_lt 1 (length (get_all (head_of request).headers name))

-- a digit or a full stop: the bytes of an IPv4 address
abbrev pub is_dotted : ℕ → Bool
is_dotted b = is_ascii_digit b || (b == 46)

-- nothing follows so many bytes of a host, or a colon and the port
abbrev pub ends_at : List ℕ → ℕ → Bool
ends_at host len = (len == length host) || (slice_index host len == 58)

-- the host is `localhost`, in any case
abbrev pub is_localhost : List ℕ → Bool
is_localhost host = nat_le 9 (length host) && (eq_ignore_case (take 9 host) (codes "localhost") && ends_at host 9)

-- the host is an address, which no name of another's can be turned to, or `localhost`
abbrev pub is_own_host : List ℕ → Bool
is_own_host host =
    (nat_lt 0 (length host) && (slice_index host 0 == 91))
    || ((nat_lt 0 (prefix_len is_dotted host) && ends_at host (prefix_len is_dotted host)) || is_localhost host)

-- a `Host` that is another name; a request without one is no browser's
abbrev pub is_foreign_host : Option (List ℕ) → Bool
is_foreign_host None = false
is_foreign_host (Some host) = not (is_own_host host)

-- an `Origin` that is not this host over plain HTTP; only pages have one
abbrev pub is_foreign_origin : Option (List ℕ) → Option (List ℕ) → Bool
is_foreign_origin host None = false
is_foreign_origin None (Some origin) = true
is_foreign_origin (Some host) (Some origin) = not (bytes_eq origin (codes "http://" ++ host))

-- a `Sec-Fetch-Site` by which a browser tells of a page of another place
abbrev pub is_foreign_site : Option (List ℕ) → Bool
is_foreign_site None = false
is_foreign_site (Some site) = bytes_eq site (codes "cross-site") || bytes_eq site (codes "same-site")

-- the request says more than once of which place its page is; a browser says it once
abbrev pub is_ambiguous : Request (List ℕ) → Bool
is_ambiguous request = is_repeated request (codes "origin") || is_repeated request (codes "sec-fetch-site")

-- why a request is denied, if it is
abbrev pub denial_of : Request (List ℕ) → Option Denial
denial_of request =
    let host = field_of request (codes "host") in
    if is_some (uri_scheme (head_of request).uri) || is_some (uri_authority (head_of request).uri) then Some Target
    else if is_foreign_host host then Some Host
    else if is_ambiguous request then Some Origin
    else if is_foreign_origin host (field_of request (codes "origin")) then Some Origin
    else if is_foreign_site (field_of request (codes "sec-fetch-site")) then Some Origin
    else None

-- no cache is to keep the answer
abbrev pub uncached : Header
uncached = (codes "cache-control", codes "no-store")

-- the body is a text
abbrev pub plain : Header
plain = (codes "content-type", codes "text/plain; charset=us-ascii")

-- what answers a request that is denied
abbrev pub IsDenied : Denial → Response → Type 0
IsDenied Target = IsResponse 400 (uncached ∷ (codes "connection", codes "close") ∷ []) []
IsDenied Host = IsResponse 421 (uncached ∷ plain ∷ []) (codes "host\n")
IsDenied Origin = IsResponse 403 (uncached ∷ plain ∷ []) (codes "origin\n")

-- a service's relation at a request that is not denied; at one that is, it is not called
abbrev pub AnswersAt : {S : Type 0} → Option Denial → (S → Request (List ℕ) → Response → S → Type 0)
    → S → Request (List ℕ) → Response → S → Type 0
AnswersAt None answers old request response new = answers old request response new
AnswersAt (Some denial) answers old request response new = IsDenied denial response × (new ≡ old)

-- what a service answers once requests are denied before it
abbrev pub WithDenials : {S : Type 0} → (S → Request (List ℕ) → Response → S → Type 0)
    → S → Request (List ℕ) → Response → S → Type 0
WithDenials answers old request response new = AnswersAt (denial_of request) answers old request response new

-- the answer to one connection more than there are places
abbrev pub full_text : List ℕ
full_text =
    codes "HTTP/1.1 503 Service Unavailable\r\n" ++ codes "content-type: text/plain; charset=us-ascii\r\n"
    ++ codes "cache-control: no-store\r\n" ++ codes "retry-after: 1\r\n" ++ codes "connection: close\r\n"
    ++ codes "content-length: 5\r\n\r\n" ++ codes "full\n"
