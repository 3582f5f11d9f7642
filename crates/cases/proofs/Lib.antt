mod Models
